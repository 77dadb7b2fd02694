use Prim.Native.Nat.{◌+◌}
use mathlib.Core.Path.{refl}
use native.Mathlib.Omega.{arith}
use Rattle.answer_forms.proofs.PassedOn.{passed_on}
use Rattle.answers.specs.Checks.{one_by_one}
use Rattle.answers.proofs.OneByOne.{step_accepted, step_refused}
use Rattle.checks.proofs.Arcs.{marked_here}
use Rattle.checks.proofs.tree.check_arcs.Goals as goal

pub loop-i-init : goal.loop-i-init
unfolding one_by_one
loop-i-init c = refl

pub returns-in_err-check_at : goal.returns-in_err-check_at
returns-in_err-check_at c =
    let at = c.loop-i in
    let known = c.find_children-has_child.ensures (at.i + 1) (omega arith) (omega (arith, c.requires.parents_len_bound)) in
    passed_on _ _ c.from_residual.ensures.1
    (step_refused _ at.i at.invariant (marked_here _ _ at.i c.args.marks.now _ known c.in_err-check_at.ensures) refl _ (omega arith))

pub loop-i-preserved : goal.loop-i-preserved
loop-i-preserved c =
    let at = c.loop-i in
    let known = c.find_children-has_child.ensures (at.i + 1) (omega arith) (omega (arith, c.requires.parents_len_bound)) in
    step_accepted _ at.i at.invariant (marked_here _ _ at.i c.args.marks.now _ known c.in_ok-check_at.ensures) refl
