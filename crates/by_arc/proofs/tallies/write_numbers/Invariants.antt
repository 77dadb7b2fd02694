use lib.ListN.{length, get_or}
use Rattle.basics.proofs.Filling.{Filling}
use Rattle.by_arc.proofs.tallies.write_numbers.Given as goal

abbrev pub invariant-loop-i : goal.invariant-loop-i
invariant-loop-i l = Filling (length l.order) (λ u. get_or l.order u 0) l.keys l.i
