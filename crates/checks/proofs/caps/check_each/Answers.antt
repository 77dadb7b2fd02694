use mathlib.Core.Path.{refl, sym, ◌∙◌}
use native.Mathlib.Omega.{arith}
use Rattle.answer_forms.proofs.PassedOn.{passed_on}
use Rattle.answers.specs.Level.{outside_cap}
use Rattle.checks.proofs.Range.{range_on, range_stop, range_end}
use Rattle.checks.proofs.caps.check_each.Goals as goal

pub returns-in_err-check_cap : goal.returns-in_err-check_cap
returns-in_err-check_cap c =
    passed_on _ _ c.from_residual.ensures.1
    (range_stop outside_cap 0 c.loop-j.j _ (omega arith) c.loop-j.invariant c.in_err-check_cap.ensures refl)

pub loop-j-preserved : goal.loop-j-preserved
loop-j-preserved c =
    range_on outside_cap 0 c.loop-j.j _ (omega arith) c.loop-j.invariant c.in_ok-check_cap.ensures refl

pub returns : goal.returns
returns c = sym (c.loop-j.invariant ∙ range_end outside_cap _ _ _ c.loop-j-test.false)
