use Rattle.std.proofs.Common.{◌≡◌, ◌+◌, false, ◌||◌, get_or, eqb, arith}
use Rattle.std.proofs.lemmas.Bool.Decides.{nat_tests}
use Rattle.basics.specs.Sum.{pick}
use Rattle.margin.proofs.BranchPass.{marking_start, marking_on, marking_end}
use Rattle.margin.proofs.branch.write_branch_marks.Goals as goal
use Rattle.margin.proofs.branch.write_branch_marks.Goals.{then-arc-i, else-arc-i, then-here, else-here}

pub loop-i-init : goal.loop-i-init
loop-i-init c =
    let pre = c.requires in
    marking_start _ _ _ pre.sound (omega arith) pre.out_len

pub loop-i-preserved : goal.loop-i-preserved
loop-i-preserved c =
    let parent_is = get_or c.loop-i.inside (get_or c.args.parents.now c.loop-i.i 0) false in
    let here : c.if-arc-i.here ≡ (eqb c.args.arc (c.loop-i.i + 1) || parent_is) =
    elim c.if-arc-i.branch [
      | then-arc-i w ↦ grind (arith, nat_tests)
      | else-arc-i w ↦ grind (arith, nat_tests)
    ] in
    let mark : c.if-here.out ≡ pick c.if-arc-i.here (get_or c.args.marks.now c.loop-i.i 0) =
    elim c.if-here.branch [
      | then-here w ↦ grind (arith, nat_tests)
      | else-here w ↦ grind (arith, nat_tests)
    ] in
    marking_on _ _ _ c.requires.sound c.loop-i-test.true c.loop-i.invariant here mark

pub returns : goal.returns
returns c = marking_end _ _ _ c.loop-i-test.false c.loop-i.invariant
