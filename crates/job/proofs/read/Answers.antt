use mathlib.Core.Path.{sym}
use Rattle.job_bytes.specs.declared.version.Version.TheVariants.{One}
use Rattle.job_form.proofs.FormAccepted.{form_layout}
use Rattle.job_checks.proofs.Accepted.{job_accepted}
use Rattle.job.specs.Reader.{lent}
use Rattle.job.proofs.Roomy.{has_room}
use Rattle.job.proofs.read.Goals as goal

pub read_contents-t-requires : goal.read_contents-t-requires
read_contents-t-requires c =
    let args = c.args in
    let lists = lent args.parents.now args.costs.now args.caps.now args.proposals.now in
    let ok = job_accepted One _ (sym c.in_ok-check_job.ensures) in
    record { layout = form_layout One _ ok.form; room = has_room _ lists (sym c.in_ok-check_room.ensures) ok }
