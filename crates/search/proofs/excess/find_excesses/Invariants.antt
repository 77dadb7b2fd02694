use Rattle.search.proofs.Bound.{Proposed}
use Rattle.search.proofs.ExcessPass.{Passing}
use Rattle.search.proofs.excess.find_excesses.Given as goal

abbrev pub invariant-loop-i : goal.invariant-loop-i
invariant-loop-i l = Proposed l.parents l.costs l.marks l.proposal
    × Passing l.parents l.costs l.marks l.proposal l.below l.of l.j l.i
