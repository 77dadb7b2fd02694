use mathlib.Core.Path.{refl, sym, ◌∙◌}
use Rattle.answer_forms.proofs.Composed.{stopped}
use Rattle.job_form.proofs.Rows.{rows_turn, rows_end}
use Rattle.job_form.proofs.check_rows.Goals as goal

pub returns-in_default : goal.returns-in_default
returns-in_default c =
    let here = rows_turn _ _ _ _ _ c.loop-i-test.true c.number_at.ensures.value c.check_filler-found.ensures in
    stopped _ refl c.in_default.is ∙ sym (c.loop-i.invariant ∙ here)

pub loop-i-preserved : goal.loop-i-preserved
loop-i-preserved c =
    c.loop-i.invariant ∙ rows_turn _ _ _ _ _ c.loop-i-test.true c.number_at.ensures.value c.in-Ok.ensures

pub returns : goal.returns
returns c = sym (c.loop-i.invariant ∙ rows_end _ _ _ _ _ c.loop-i-test.false)
