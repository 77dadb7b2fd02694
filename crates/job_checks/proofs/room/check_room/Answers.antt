use mathlib.Core.Path.{refl, ap}
use native.Mathlib.Omega.{arith}
use Rattle.answer_forms.specs.Checked.{check_of}
use Rattle.answers.specs.Checks.{one_by_one}
use Rattle.answers.proofs.OneByOne.{step_accepted, step_refused}
use Rattle.job_checks.specs.JobCheck.{room_check}
use Rattle.job_checks.proofs.room.check_room.Goals as goal

pub loop-length-init : goal.loop-length-init
unfolding one_by_one
loop-length-init c = refl

pub returns-in_default : goal.returns-in_default
unfolding room_check
returns-in_default c =
    let loop = c.loop-length in
    step_refused _ loop.length-index loop.invariant c.check_length-found.ensures (ap check_of c.in_default.is)
    _ (omega arith)

pub loop-length-preserved : goal.loop-length-preserved
loop-length-preserved c =
    step_accepted _ c.loop-length.length-index c.loop-length.invariant c.in-Ok.ensures refl
