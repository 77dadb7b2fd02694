use Prim.Native.Nat.{suc, ◌*◌, ◌≤◌}
use mathlib.Core.Path.{◌≡◌}
use Rattle.basics.specs.Sum.{sum₀}
use Rattle.game.specs.Tree.{of_arc}
use Rattle.answers.specs.Classes.{part}
use Rattle.cost_classes.proofs.sums.sum_at.Given as goal

abbrev pub invariant-loop-c : goal.invariant-loop-c
invariant-loop-c l = (l.total ≤ l.c * 4294967295) × (l.total ≡ sum₀ l.c (λ d. of_arc (part l.m d l.costs) (suc l.i)))
