use mathlib.Core.Path.{sym}
use Rattle.job2.specs.Converter.{other}
use Rattle.job2.proofs.converter.job_to_2.Goals as goal

pub write_in-requires : goal.write_in-requires
unfolding other
write_in-requires c = sym c.in_ok-check_job.ensures
