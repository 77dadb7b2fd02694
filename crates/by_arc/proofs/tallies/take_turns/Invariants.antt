use Rattle.tree.specs.Passes.{network_at}
use Rattle.by_arc.proofs.Turning.{Turned}
use Rattle.by_arc.proofs.tallies.take_turns.Given as goal

abbrev pub invariant-loop-i : goal.invariant-loop-i
invariant-loop-i l = Turned (network_at l.parents l.costs l.vertices) l.order l.keys l.i
