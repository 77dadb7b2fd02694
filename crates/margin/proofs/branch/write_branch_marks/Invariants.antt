use Rattle.margin.proofs.BranchPass.{Marking}
use Rattle.margin.proofs.branch.write_branch_marks.Given as goal

abbrev pub invariant-loop-i : goal.invariant-loop-i
invariant-loop-i l = Marking l.parents l.marks l.arc l.inside l.out l.i
