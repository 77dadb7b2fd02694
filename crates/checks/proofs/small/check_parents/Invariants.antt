use mathlib.Core.Path.{◌≡◌}
use Rattle.answer_forms.specs.Answer.{accepted}
use Rattle.answers.specs.Checks.{one_by_one, parent_check}
use Rattle.checks.proofs.small.check_parents.Given as goal

abbrev pub invariant-loop-i : goal.invariant-loop-i
invariant-loop-i l = one_by_one (parent_check l.parents) l.i ≡ accepted
