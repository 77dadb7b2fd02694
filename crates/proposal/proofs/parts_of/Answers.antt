use mathlib.Core.Path.{◌≡◌}
use native.Mathlib.Omega.{arith}
use mir.Facts.{to_z-of_z}
use Rattle.basics.specs.Integer.{plus, minus}
use Rattle.game.specs.Proposal.{share}
use Rattle.proposal.proofs.Sums.{plus_size, minus_size, next_most, all_summed}
use Rattle.proposal.proofs.parts_of.Goals as goal

pub overflow_add-above : goal.overflow_add-above
overflow_add-above c =
    let at = c.loop-share in
    let part : c.plus-above.result ≡ plus (share c.args.proposal.now at.share-index) = grind (arith, to_z-of_z) in
    omega (
      arith,
      next_most _ c.requires.proposal_value c.requires.proposal_len_bound plus plus_size at.share-index
          c.loop-share-test.true at.invariant.0 part,
    )

pub overflow_add-below : goal.overflow_add-below
overflow_add-below c =
    let at = c.loop-share in
    let part : c.minus-below.result ≡ minus (share c.args.proposal.now at.share-index) = grind (arith, to_z-of_z) in
    omega (
      arith,
      next_most _ c.requires.proposal_value c.requires.proposal_len_bound minus minus_size at.share-index
          c.loop-share-test.true at.invariant.1 part,
    )

pub returns : goal.returns
returns c =
    let at = c.loop-share in
    all_summed _ c.requires.proposal_value c.requires.proposal_len_bound (omega arith) at.invariant.0 at.invariant.1
