use Rattle.search.proofs.ActivePass.{Choosing}
use Rattle.search.proofs.active.choose_active.Given as goal

abbrev pub invariant-loop-i : goal.invariant-loop-i
invariant-loop-i l = Choosing l.parents l.marks l.of l.active l.words l.j l.i
