use mathlib.Core.Path.{◌≡◌}
use Rattle.basics.specs.Integer.{plus, minus}
use Rattle.proposal.proofs.Sums.{part_sum}
use Rattle.proposal.proofs.parts_of.Given as goal

abbrev pub invariant-loop-share : goal.invariant-loop-share
invariant-loop-share l = (l.above ≡ part_sum plus l.proposal l.share-index)
    × (l.below ≡ part_sum minus l.proposal l.share-index)
