-- No sum of positive shares of an accepted proposal is above 1,023 times the greatest share.
use Prim.Native.Nat.{ℕ, ◌≤◌}
use mathlib.Core.Path.{◌≡◌, refl}
use mathlib.Core.List.{List}
use native.Mathlib.Omega.{arith}
use lib.ListN.{length}
use lib.IntN.{ℤ, pos}
use Rattle.limits.specs.Inner.{most_total}
use Rattle.basics.specs.Sum.{sum}
use Rattle.game.specs.Network.{member_count}
use Rattle.game.specs.Tree.{network_of, marked}
use Rattle.basics.specs.Integer.{plus}
use Rattle.game.specs.Proposal.{share}
use Rattle.basics.proofs.Sums.{count_le}
use Rattle.game.proofs.Overpayment.{over_at, members_sum}
use Rattle.answer_forms.specs.Answer.{accepted}
use Rattle.answers.specs.Checks.{proposal_check, outside_share}
use Rattle.answers.proofs.InRange.{list_accepted}
use Rattle.proposal.proofs.Sums.{plus_size, sum_most}
use Rattle.tree.specs.Passes.{Sound, Costed, Marked}

-- what the search asks of its lists
pub record Proposed (ps cs ms : List ℕ) (shares : List ℤ) : Type 0 where
  pub sound : Sound ps
  pub costed : Costed ps cs
  pub marks : Marked ps ms
  pub accepts : proposal_check (member_count (network_of ps cs ms)) shares ≡ accepted

module _ (ps cs ms : List ℕ) (shares : List ℤ) (ok : Proposed ps cs ms shares) where
  pub weights_bound : sum (length ps) (over_at (network_of ps cs ms) shares) ≤ most_total
  weights_bound =
      let n = network_of ps cs ms in
      omega (
        arith,
        members_sum (length ps) (marked ms) (λ j. plus (share shares j)),
        sum_most plus shares (member_count n) plus_size ok.accepts (member_count n)
            (omega (arith, count_le (length ps) (marked ms), ok.sound.few)),
      )

  pub proposal_length : length shares ≡ member_count (network_of ps cs ms)
  proposal_length =
      (list_accepted outside_share (pos 0) (member_count (network_of ps cs ms)) shares refl ok.accepts).same
