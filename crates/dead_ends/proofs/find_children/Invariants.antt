use Rattle.dead_ends.proofs.ChildPass.{Naming}
use Rattle.dead_ends.proofs.find_children.Given as goal

abbrev pub invariant-loop-parent : goal.invariant-loop-parent
invariant-loop-parent l = Naming l.parents l.has_child l.parent-index
