use Rattle.game.specs.Floors.{adjusted}
use Rattle.tree.specs.Passes.{network_at}
use Rattle.tree.proofs.InwardPass.{Waiting, Passing}
use Rattle.level.proofs.adjusted.write_adjusted.Given as goal

abbrev pub invariant-loop-i : goal.invariant-loop-i
invariant-loop-i l = Waiting l.initial.out l.out l.i
    × Passing l.parents (adjusted (network_at l.parents l.costs l.vertices) l.floors) l.out l.below l.i
