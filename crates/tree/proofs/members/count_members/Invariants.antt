use mathlib.Core.Path.{◌≡◌}
use Rattle.tree.proofs.MemberPass.{up_to}
use Rattle.tree.proofs.members.count_members.Given as goal

abbrev pub invariant-loop-mark : goal.invariant-loop-mark
invariant-loop-mark l = l.n ≡ up_to l.marks l.mark-index
