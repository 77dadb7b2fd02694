use Rattle.key_passes.proofs.Keeping.{Keeping}
use Rattle.key_passes.proofs.keep.keep_open.Given as goal

abbrev pub invariant-loop-i : goal.invariant-loop-i
invariant-loop-i l =
    Keeping l.initial.order l.initial.links l.bounds l.flags l.lows l.highs l.initial.rests
    l.order l.links l.rests l.next l.i
