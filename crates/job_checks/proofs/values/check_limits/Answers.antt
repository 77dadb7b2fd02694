use Rattle.basics.proofs.Lists.{entries_part}
use Rattle.job_bytes.specs.Versions.{floor_width}
use Rattle.job_checks.proofs.values.check_limits.Goals as goal

pub returns : goal.returns
unfolding floor_width
returns c = rw (entries_part _ _ _ c.read_column.ensures) at c.check_limits.ensures
