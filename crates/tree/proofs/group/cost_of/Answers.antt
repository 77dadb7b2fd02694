use Prim.Native.Nat.{◌+◌, ◌-◌}
use mathlib.Core.Path.{◌≡◌, refl, ◌∙◌}
use native.Mathlib.Omega.{arith}
use lib.ListN.{get_or}
use Rattle.basics.specs.Bit.{bit}
use Rattle.basics.specs.Sum.{pick}
use Rattle.tree.proofs.MemberPass.{up_to}
use Rattle.tree.proofs.GroupPass.{in_use, costing_start, costing_few, costing_fits, costing_on}
use Rattle.tree.proofs.GroupPass.{left_at_member, used_at_member, left_elsewhere, used_elsewhere}
use Rattle.tree.proofs.group.cost_of.Goals as goal
use Rattle.tree.proofs.group.cost_of.Goals.{Joined-marks-i-eq1}
use Rattle.tree.proofs.group.cost_of.Goals.{then-marks-i-eq1, else-marks-i-eq1, then-here, else-here}

pub loop-i-init : goal.loop-i-init
loop-i-init c = costing_start _ _ _ c.args.words refl c.requires.members_value

pub bounds-words-j : goal.bounds-words-j
bounds-words-j c = omega (arith, costing_few _ _ _ c.args.words c.requires.sound (omega arith) c.loop-i.invariant)

-- whether the group uses the arc
used_here : (c : Joined-marks-i-eq1)
    → c.if-marks-i-eq1.here ≡ in_use c.args.parents.now c.args.costs.now c.args.marks.now c.args.words c.loop-i.i
unfolding bit
used_here c =
    let pre = c.requires in
    let inv = c.loop-i.invariant in
    elim c.if-marks-i-eq1.branch [
      | then-marks-i-eq1 w ↦
          w.here-is ∙ w.bit_of-here.ensures
          ∙ used_at_member _ _ _ c.args.words pre.sound pre.costed pre.marked c.loop-i-test.true (omega arith) inv
          w.if-marks-i-eq1.true
      | else-marks-i-eq1 w ↦
          w.here-is
          ∙ used_elsewhere _ _ _ c.args.words pre.sound pre.costed pre.marked c.loop-i-test.true (omega arith) inv
          w.if-marks-i-eq1.false
    ]

pub overflow_add-cost : goal.overflow_add-cost
overflow_add-cost c =
    let pre = c.requires in
    omega (
      arith,
      costing_fits _ _ _ c.args.words pre.sound pre.costed pre.marked c.loop-i-test.true (omega arith)
          c.loop-i.invariant (used_here (goal.at.overflow_add-cost c).Joined-marks-i-eq1) c.if-here.true,
    )

pub loop-i-preserved : goal.loop-i-preserved
loop-i-preserved c =
    let pre = c.requires in
    let inv = c.loop-i.invariant in
    let left : c.if-marks-i-eq1.j ≡ up_to c.args.marks.now (c.loop-i.i - 1) =
    elim c.if-marks-i-eq1.branch [
      | then-marks-i-eq1 w ↦
          omega (
            arith,
            w.j-is,
            left_at_member _ _ _ c.args.words pre.sound pre.costed pre.marked c.loop-i-test.true (omega arith) inv
                w.if-marks-i-eq1.true,
          )
      | else-marks-i-eq1 w ↦
          w.j-is
          ∙ left_elsewhere _ _ _ c.args.words pre.sound pre.costed pre.marked c.loop-i-test.true (omega arith) inv
          w.if-marks-i-eq1.false
    ] in
    let cost_here = get_or c.args.costs.now (c.loop-i.i - 1) 0 in
    let paid : c.if-here.cost ≡ c.loop-i.cost + pick c.if-marks-i-eq1.here cost_here =
    elim c.if-here.branch [
      | then-here w ↦ rw w.if-here.true (omega arith)
      | else-here w ↦ rw w.if-here.false (omega arith)
    ] in
    rw c.from-p.ensures
    (costing_on _ _ _ c.args.words pre.sound pre.costed pre.marked c.loop-i-test.true (omega arith) inv
    (used_here (goal.at.loop-i-preserved c).Joined-marks-i-eq1) left paid)
