use mathlib.Core.Path.{sym}
use Rattle.job_form.proofs.FormAccepted.{form_layout}
use Rattle.job_checks.proofs.check_job.Goals as goal

pub check_fillers-fillers-requires : goal.check_fillers-fillers-requires
check_fillers-fillers-requires c = form_layout _ _ (sym c.in-Ok.ensures)

pub check_values-requires : goal.check_values-requires
check_values-requires c = form_layout _ _ (sym c.in-Ok.ensures)
