use Rattle.by_arc.proofs.Ways.{Walking}
use Rattle.by_arc.proofs.parts.write_parts.Given as goal

abbrev pub invariant-loop-i : goal.invariant-loop-i
invariant-loop-i l = Walking l.parents l.costs l.initial.parts l.parts l.i
