use Prim.Native.Nat.{ℕ, suc}
use mathlib.Core.List.{List}
use lib.ListN.{length}
use Rattle.basics.specs.Sum.{sum₀, smaller}
use Rattle.basics.proofs.Filling.{Filling}
use Rattle.game.specs.Tree.{of_arc}
use Rattle.limits.specs.Limits.{most_cost}
use Rattle.answers.specs.Classes.{part}
use Rattle.cost_classes.proofs.sums.write_sums.Given as goal

-- the sum that is written for arc k of m
abbrev pub cut : ℕ → ℕ → List ℕ → ℕ → ℕ
cut m classes costs k = smaller (sum₀ classes (λ c. of_arc (part m c costs) k)) (suc most_cost)

abbrev pub invariant-loop-i : goal.invariant-loop-i
invariant-loop-i l = Filling (length l.initial.out) (λ u. cut (length l.initial.out) l.classes l.costs (suc u)) l.out l.i
