use Rattle.buffer.proofs.Pieces.{Copying}
use Rattle.buffer.proofs.put.Given as goal

abbrev pub invariant-loop-i : goal.invariant-loop-i
invariant-loop-i l = Copying l.initial.out l.at l.piece l.i l.out
