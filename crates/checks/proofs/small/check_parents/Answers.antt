use mathlib.Core.Path.{refl}
use native.Mathlib.Omega.{arith}
use Rattle.answer_forms.proofs.PassedOn.{passed_on}
use Rattle.answers.specs.Checks.{one_by_one}
use Rattle.answers.proofs.OneByOne.{step_accepted, step_refused}
use Rattle.checks.proofs.Arcs.{parent_here}
use Rattle.checks.proofs.small.check_parents.Goals as goal

pub loop-i-init : goal.loop-i-init
unfolding one_by_one
loop-i-init c = refl

pub returns-in_err-check_parent : goal.returns-in_err-check_parent
returns-in_err-check_parent c =
    passed_on _ _ c.from_residual.ensures.1
    (step_refused _ c.loop-i.i c.loop-i.invariant (parent_here _ c.loop-i.i c.in_err-check_parent.ensures) refl _ (omega arith))

pub loop-i-preserved : goal.loop-i-preserved
loop-i-preserved c =
    step_accepted _ c.loop-i.i c.loop-i.invariant (parent_here _ c.loop-i.i c.in_ok-check_parent.ensures) refl
