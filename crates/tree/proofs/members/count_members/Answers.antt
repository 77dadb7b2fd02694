use native.Mathlib.Omega.{arith}
use lib.Dec.{eqb}
use lib.ListN.{get_or}
use Rattle.basics.proofs.Bools.{pick_le}
use Rattle.tree.proofs.MemberPass.{up_to_le}
use Rattle.tree.proofs.members.count_members.Goals as goal

pub overflow_add-n : goal.overflow_add-n
overflow_add-n c =
    let marks = c.args.marks.now in
    let i = c.loop-mark.mark-index in
    omega (arith, up_to_le marks i, pick_le (eqb (get_or marks i 0) 1) 1)
