use Rattle.key_passes.specs.Passes.{own_at}
use Rattle.key_passes.proofs.Evaluating.{Evaluating}
use Rattle.key_passes.proofs.forest.Forest.evaluate.Given as goal

abbrev pub invariant-loop-i : goal.invariant-loop-i
invariant-loop-i l =
    Evaluating l.self.order.now l.self.links.now l.self.bounds.now (own_at l.members.caps l.members.numbers l.rests l.pivots) l.sums l.held l.i
