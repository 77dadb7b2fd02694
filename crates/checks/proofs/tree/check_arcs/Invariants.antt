use Prim.Native.Nat.{ℕ}
use mathlib.Core.Path.{◌≡◌}
use mathlib.Core.List.{List}
use Rattle.answer_forms.specs.Answer.{Check, accepted, ◌then◌}
use Rattle.answers.specs.Checks.{one_by_one, arc_check, mark_check}
use Rattle.checks.proofs.tree.check_arcs.Given as goal

abbrev pub at_arc : List ℕ → List ℕ → List ℕ → ℕ → Check
at_arc parents costs marks k = arc_check parents costs k then mark_check parents marks k

abbrev pub invariant-loop-i : goal.invariant-loop-i
invariant-loop-i l = one_by_one (at_arc l.parents l.costs l.marks) l.i ≡ accepted
