use mathlib.Core.Path.{refl}
use native.Mathlib.Omega.{arith}
use Rattle.answer_forms.proofs.PassedOn.{passed_on}
use Rattle.answers.specs.Checks.{one_by_one}
use Rattle.answers.proofs.OneByOne.{step_accepted, step_refused}
use Rattle.job2.specs.Converter.{floored_check}
use Rattle.job2.proofs.back.check_each.Goals as goal

pub loop-j-init : goal.loop-j-init
unfolding one_by_one
loop-j-init c = refl

pub returns-in_err-check_floor : goal.returns-in_err-check_floor
unfolding floored_check
returns-in_err-check_floor c =
    passed_on _ _ c.from_residual.ensures.1
    (step_refused _ c.loop-j.j c.loop-j.invariant c.in_err-check_floor.ensures refl _ (omega arith))

pub loop-j-preserved : goal.loop-j-preserved
loop-j-preserved c = step_accepted _ c.loop-j.j c.loop-j.invariant c.in_ok-check_floor.ensures refl
