use Rattle.std.proofs.Common.{suc, length}
use Rattle.basics.proofs.Filling.{Filling}
use Rattle.key_search.proofs.Placing.{Linking}
use Rattle.key_search.proofs.start.open_all.Given as goal

abbrev pub invariant-loop-i : goal.invariant-loop-i
invariant-loop-i l = Filling (length l.parents) suc l.order l.i × Linking l.parents l.links l.i
