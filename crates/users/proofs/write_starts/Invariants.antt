use Rattle.users.proofs.StartPass.{Beginning}
use Rattle.users.proofs.write_starts.Given as goal

abbrev pub invariant-loop-i : goal.invariant-loop-i
invariant-loop-i l = Beginning l.parents l.counts l.starts l.next l.i
