use mathlib.Core.Path.{refl, sym, ◌∙◌}
use native.Mathlib.Omega.{arith}
use Rattle.answer_forms.proofs.PassedOn.{passed_on}
use Rattle.answer_forms.proofs.Composed.{stopped, went_on}
use Rattle.answers.proofs.Limits.{tree_limits}
use Rattle.job_checks.specs.JobCheck.{shares_check, values_check}
use Rattle.job_checks.proofs.Counted.{tree_refused, tree_counted, shares_by}
use Rattle.job_checks.proofs.Accepted.{count_accepted}
use Rattle.job_checks.proofs.values.check_values.Goals as goal

pub returns-in_err-members : goal.returns-in_err-members
unfolding values_check
returns-in_err-members c =
    let t = c.read-t.ensures in
    let found = tree_refused _ (rw (t.arcs_is, t.arc_offset_is) at c.in_err-members.ensures) in
    passed_on _ _ c.from_residual.ensures.1 (rw found refl)

pub returns-in_default : goal.returns-in_default
unfolding values_check
returns-in_default c =
    let t = c.read-t.ensures in
    let counted = tree_counted _ (rw (t.arcs_is, t.arc_offset_is) at c.in_ok-members.ensures) in
    went_on counted.0 (rw (← counted.1, ← t.members_is) (stopped _ c.check_count-rows.ensures c.in_default.is))

pub check_shares-requires-clause-members_le_most_arcs : goal.check_shares-requires-clause-members_le_most_arcs
check_shares-requires-clause-members_le_most_arcs c =
    let t = c.read-t.ensures in
    let counted = tree_counted _ (rw (t.arcs_is, t.arc_offset_is) at c.in_ok-members.ensures) in
    omega (arith, counted.1, (tree_limits _ counted.0).members)

pub returns : goal.returns
unfolding values_check shares_check
returns c =
    let t = c.read-t.ensures in
    let counted = tree_counted _ (rw (t.arcs_is, t.arc_offset_is) at c.in_ok-members.ensures) in
    let rows = count_accepted _ _ (sym c.in-Ok.ensures) in
    let shares = rw t.member_offset_is at c.check_shares.ensures in
    went_on counted.0
    (went_on (rw (← counted.1, ← t.members_is) (sym c.in-Ok.ensures))
    (shares_by _ _ _ _ counted.1 (sym rows ∙ t.members_is) shares))
