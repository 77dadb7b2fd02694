use Rattle.tree.proofs.CountedPass.{Counting}
use Rattle.tree.proofs.counted.write_counted.Given as goal

abbrev pub invariant-loop-i : goal.invariant-loop-i
invariant-loop-i l = Counting l.parents l.costs l.marks l.out l.used l.i
