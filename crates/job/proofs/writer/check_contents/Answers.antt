use mathlib.Core.Path.{refl}
use Rattle.answer_forms.proofs.PassedOn.{passed_on}
use Rattle.job.proofs.WriterAnswered.{not_counted, counted}
use Rattle.job.proofs.writer.check_contents.Goals as goal

pub returns-in_err-members : goal.returns-in_err-members
returns-in_err-members c = passed_on _ _ c.from_residual.ensures.1 (not_counted _ c.in_err-members.ensures)

pub returns-in_err-check_caps : goal.returns-in_err-check_caps
returns-in_err-check_caps c =
    passed_on _ _ c.from_residual-in_err-check_caps.ensures.1
    (counted _ c.in_ok-members.ensures (rw (← c.in_err-check_caps.ensures) refl))

pub returns-in_err-check_proposal : goal.returns-in_err-check_proposal
returns-in_err-check_proposal c =
    passed_on _ _ c.from_residual-in_err-check_proposal.ensures.1
    (counted _ c.in_ok-members.ensures (rw (← c.in_ok-check_caps.ensures, ← c.in_err-check_proposal.ensures) refl))

pub returns : goal.returns
returns c =
    counted _ c.in_ok-members.ensures
    (rw (← c.in_ok-check_caps.ensures, ← c.in_ok-check_proposal.ensures) c.check_note.ensures)
