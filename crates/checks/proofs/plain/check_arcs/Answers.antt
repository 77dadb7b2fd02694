use mathlib.Core.Path.{refl}
use native.Mathlib.Omega.{arith}
use Rattle.answer_forms.proofs.PassedOn.{passed_on}
use Rattle.answers.specs.Checks.{one_by_one}
use Rattle.answers.proofs.OneByOne.{step_accepted, step_refused}
use Rattle.checks.proofs.Arcs.{arc_here}
use Rattle.checks.proofs.plain.check_arcs.Goals as goal

pub loop-i-init : goal.loop-i-init
unfolding one_by_one
loop-i-init c = refl

pub returns-in_err-check_arc : goal.returns-in_err-check_arc
returns-in_err-check_arc c =
    passed_on _ _ c.from_residual.ensures.1
    (step_refused _ c.loop-i.i c.loop-i.invariant (arc_here _ _ c.loop-i.i c.in_err-check_arc.ensures) refl _ (omega arith))

pub loop-i-preserved : goal.loop-i-preserved
loop-i-preserved c =
    step_accepted _ c.loop-i.i c.loop-i.invariant (arc_here _ _ c.loop-i.i c.in_ok-check_arc.ensures) refl
