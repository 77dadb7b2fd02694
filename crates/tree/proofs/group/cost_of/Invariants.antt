use Rattle.tree.proofs.GroupPass.{Costing}
use Rattle.tree.proofs.group.cost_of.Given as goal

abbrev pub invariant-loop-i : goal.invariant-loop-i
invariant-loop-i l = Costing l.parents l.costs l.marks l.words l.used l.j l.cost l.i
