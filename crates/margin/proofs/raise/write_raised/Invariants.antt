use Rattle.game.specs.Margin.{raised}
use Rattle.tree.specs.Passes.{network_at}
use Rattle.tree.proofs.InwardPass.{Passing}
use Rattle.margin.proofs.raise.write_raised.Given as goal

abbrev pub invariant-loop-i : goal.invariant-loop-i
invariant-loop-i l = Passing l.parents (raised (network_at l.parents l.costs l.vertices) l.margin) l.out l.below l.i
