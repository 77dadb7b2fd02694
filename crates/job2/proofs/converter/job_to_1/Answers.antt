use mathlib.Core.Path.{sym}
use Rattle.job2.specs.Converter.{other}
use Rattle.job2.proofs.Convertible.{back_job}
use Rattle.job2.proofs.converter.job_to_1.Goals as goal

pub write_in-requires : goal.write_in-requires
unfolding other
write_in-requires c = back_job _ (sym c.in_ok-check_back.ensures)
