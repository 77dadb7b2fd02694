use native.Mathlib.Omega.{arith}
use Rattle.tree.proofs.MemberPass.{up_to_le, listing_start, listing_room, listing_member, listing_other}
use Rattle.tree.proofs.members.write_members.Goals as goal
use Rattle.tree.proofs.members.write_members.Goals.{then-mark-eq1, else-mark-eq1}

pub loop-i-init : goal.loop-i-init
loop-i-init c = listing_start _

pub offset_bounds-out-j : goal.offset_bounds-out-j
offset_bounds-out-j c = omega (arith, c.loop-i.invariant.place, up_to_le c.args.marks.now c.loop-i.i)

pub bounds-out-j : goal.bounds-out-j
bounds-out-j c = listing_room _ c.loop-i-test.true (omega arith) c.loop-i.invariant c.if-mark-eq1.true

pub overflow_add-j : goal.overflow_add-j
overflow_add-j c = omega (arith, c.loop-i.invariant.place, up_to_le c.args.marks.now c.loop-i.i)

pub loop-i-preserved : goal.loop-i-preserved
loop-i-preserved c =
    let at = c.loop-i in
    elim c.if-mark-eq1.branch [
      | then-mark-eq1 w ↦
          rw (w.out-is, w.j-is) (listing_member _ c.loop-i-test.true (omega arith) at.invariant w.if-mark-eq1.true)
      | else-mark-eq1 w ↦
          rw (w.out-is, w.j-is) (listing_other _ c.loop-i-test.true (omega arith) at.invariant w.if-mark-eq1.false)
    ]
