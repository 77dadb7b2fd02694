use Rattle.key_search.proofs.Spreading.{Spreading}
use Rattle.key_search.proofs.choose.spread.Given as goal

abbrev pub invariant-loop-entry : goal.invariant-loop-entry
invariant-loop-entry l = Spreading l.forest.order.now l.forest.links.now l.lows l.highs l.pivots l.entry-index
