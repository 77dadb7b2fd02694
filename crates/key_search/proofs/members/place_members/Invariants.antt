use Rattle.key_search.proofs.Placing.{Placing}
use Rattle.key_search.proofs.members.place_members.Given as goal

abbrev pub invariant-loop-j : goal.invariant-loop-j
invariant-loop-j l = Placing l.vertices l.caps l.members.caps l.members.numbers l.j
