use mathlib.Core.Path.{refl, sym, ◌∙◌}
use native.Mathlib.Omega.{arith}
use lib.IntN.{pos}
use mir.Syntax.{w64}
use mir.Facts.{to_z-of_z}
use Rattle.answer_forms.proofs.PassedOn.{passed_on}
use Rattle.answers.specs.Checks.{outside_share}
use Rattle.checks.proofs.Range.{range_on, range_stop, range_end}
use Rattle.checks.proofs.proposal.check_shares.Goals as goal

pub returns-in_err-check_share : goal.returns-in_err-check_share
returns-in_err-check_share c =
    passed_on _ _ c.from_residual.ensures.1
    (range_stop outside_share (pos 0) c.loop-j.j _ (omega arith) c.loop-j.invariant
    (rw (to_z-of_z {w = w64} (record { sfits = c.check_share-arg-1.given })) at c.in_err-check_share.ensures) refl)

pub loop-j-preserved : goal.loop-j-preserved
loop-j-preserved c =
    range_on outside_share (pos 0) c.loop-j.j _ (omega arith) c.loop-j.invariant
    (rw (to_z-of_z {w = w64} (record { sfits = c.check_share-arg-1.given })) at c.in_ok-check_share.ensures) refl

pub returns : goal.returns
returns c = sym (c.loop-j.invariant ∙ range_end outside_share _ _ _ c.loop-j-test.false)
