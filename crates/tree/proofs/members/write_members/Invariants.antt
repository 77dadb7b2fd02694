use Rattle.tree.proofs.MemberPass.{Listing}
use Rattle.tree.proofs.members.write_members.Given as goal

abbrev pub invariant-loop-i : goal.invariant-loop-i
invariant-loop-i l = Listing l.marks l.out l.j l.i
