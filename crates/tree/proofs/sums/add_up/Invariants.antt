use Rattle.tree.proofs.SumPass.{Summing}
use Rattle.tree.proofs.sums.add_up.Given as goal

abbrev pub invariant-loop-i : goal.invariant-loop-i
invariant-loop-i l = Summing l.parents l.initial.out l.out l.below l.i
