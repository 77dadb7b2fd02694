use Rattle.basics.proofs.Lists.{entries_part}
use Rattle.answer_forms.proofs.Composed.{stopped}
use Rattle.job_checks.proofs.values.check_shares.Goals as goal

pub returns-in_default : goal.returns-in_default
returns-in_default c =
    let caps = entries_part _ _ _ (rw c.floor_width-width.ensures.value at c.read_column.ensures) in
    rw (← caps) (stopped _ c.check_caps-upper.ensures c.in_default.is)

pub returns : goal.returns
returns c =
    let caps = entries_part _ _ _ (rw c.floor_width-width.ensures.value at c.read_column.ensures) in
    rw (← caps, ← c.in-Ok.ensures, ← c.in-Ok-shares.ensures) c.check_floors.ensures
