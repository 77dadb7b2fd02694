use Rattle.std.proofs.Common.{◌≡◌, ◌+◌, false, ◌&&◌, get_or, ltb, arith}
use Rattle.std.proofs.lemmas.Bool.Decides.{nat_tests}
use Rattle.tree.proofs.MemberPass.{up_to_le}
use Rattle.search.proofs.ActivePass.{choosing_start, choosing_member, choosing_other, choosing_end}
use Rattle.search.proofs.active.choose_active.Goals as goal
use Rattle.search.proofs.active.choose_active.Goals.{then-of-i-gt0, else-of-i-gt0, then-marks-i-eq1, else-marks-i-eq1}

pub loop-i-init : goal.loop-i-init
loop-i-init c = choosing_start _ _ _

pub overflow_add-j : goal.overflow_add-j
overflow_add-j c =
    omega (arith, c.loop-i.invariant.met, up_to_le c.args.marks.now c.loop-i.i, c.requires.sound.few)

pub loop-i-preserved : goal.loop-i-preserved
loop-i-preserved c =
    let parent_on = get_or c.loop-i.active (get_or c.args.parents.now c.loop-i.i 0) false in
    let is_on : c.if-of-i-gt0.on ≡ (ltb 0 (get_or c.args.of.now (c.loop-i.i + 1) 0) && parent_on) =
    elim c.if-of-i-gt0.branch [
      | then-of-i-gt0 w ↦ grind (arith, nat_tests)
      | else-of-i-gt0 w ↦ grind (arith, nat_tests)
    ] in
    elim c.if-marks-i-eq1.branch [
      | then-marks-i-eq1 w ↦
          rw (w.words-is, w.j-is)
          (choosing_member _ _ _ c.requires.sound c.loop-i.i c.loop-i-test.true c.loop-i.invariant is_on
          w.if-marks-i-eq1.true _ w.put.ensures.by_index w.put.ensures.words_after)
      | else-marks-i-eq1 w ↦
          rw (w.words-is, w.j-is)
          (choosing_other _ _ _ c.requires.sound c.loop-i.i c.loop-i-test.true c.loop-i.invariant is_on
          w.if-marks-i-eq1.false)
    ]

pub returns : goal.returns
returns c = choosing_end _ _ _ (omega arith) c.loop-i.invariant
