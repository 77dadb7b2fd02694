use Prim.Native.Nat.{ℕ, suc, ◌+◌}
use mathlib.Core.Path.{◌≡◌, refl}
use mathlib.Core.Bool.{◌&&◌, not}
use mathlib.Core.List.{List}
use native.Mathlib.Numerals.{add-one}
use native.Mathlib.Omega.{arith}
use lib.Dec.{eqb}
use lib.ListN.{get_or}
use Rattle.game.specs.Tree.{marked}
use Rattle.answer_forms.specs.Answer.{Check, fault}
use Rattle.answer_forms.proofs.PassedOn.{passed_on}
use Rattle.answers.specs.Checks.{one_by_one}
use Rattle.answers.proofs.OneByOne.{step_accepted, step_refused}
use Rattle.job2.specs.Converter.{unmarked_check}
use Rattle.job2.proofs.back.check_ends.Goals as goal

at_vertex : (ends marks : List ℕ) (i : ℕ) {found : Check}
    → found ≡ fault (eqb (get_or ends i 0) 1 && not (eqb (get_or marks i 0) 1)) 29 (i + 1)
    → found ≡ fault (marked ends (suc i) && not (marked marks (suc i))) 29 (suc i)
at_vertex ends marks i e = rw (add-one i) at e

pub loop-i-init : goal.loop-i-init
unfolding one_by_one
loop-i-init c = refl

pub returns-in_err-check_vertex : goal.returns-in_err-check_vertex
unfolding unmarked_check
returns-in_err-check_vertex c =
    let here = at_vertex c.args.ends.now c.args.marks.now c.loop-i.i c.in_err-check_vertex.ensures in
    passed_on _ _ c.from_residual.ensures.1 (step_refused _ c.loop-i.i c.loop-i.invariant here refl _ (omega arith))

pub loop-i-preserved : goal.loop-i-preserved
loop-i-preserved c =
    let here = at_vertex c.args.ends.now c.args.marks.now c.loop-i.i c.in_ok-check_vertex.ensures in
    step_accepted _ c.loop-i.i c.loop-i.invariant here refl
