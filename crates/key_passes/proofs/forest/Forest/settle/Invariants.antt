use Rattle.key_passes.proofs.Settling.{Settling}
use Rattle.key_passes.proofs.forest.Forest.settle.Given as goal

abbrev pub invariant-loop-entry : goal.invariant-loop-entry
invariant-loop-entry l =
    Settling l.self.order.now l.self.links.now l.self.bounds.now l.pivots l.held l.initial.flags l.initial.lows l.initial.highs
    l.flags l.lows l.highs l.entry-index
