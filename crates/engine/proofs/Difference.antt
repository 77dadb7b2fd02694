-- The total of a proposal from the sums of its positive and negative parts.
use Prim.Native.Nat.{ℕ, ◌+◌}
use mathlib.Core.Path.{◌≡◌, ap}
use mathlib.Core.Bool.{true}
use mathlib.Core.List.{List}
use native.Mathlib.Omega.{arith}
use lib.ListN.{length}
use lib.IntN.{ℤ, pos, sub_ℕ}
use Rattle.basics.specs.Sum.{sum₀}
use Rattle.game.specs.Network.{Network, member_count, whole_cost}
use Rattle.basics.specs.Integer.{plus, minus}
use Rattle.game.specs.Proposal.{share, pays, difference}
use Rattle.basics.proofs.Integers.{Less, less_parts, less_minus, less_sum, less_sub, less_same}

module _ (n : Network) (shares : List ℤ) (one_a_member : length shares ≡ member_count n) {above below : ℕ}
    (is_above : above ≡ sum₀ (length shares) (λ i. plus (share shares i)))
    (is_below : below ≡ sum₀ (length shares) (λ i. minus (share shares i))) where
  less_difference : Less (difference n shares) above (below + whole_cost n)
  unfolding pays
  less_difference =
      omega (
        arith,
        less_minus (pays n shares (λ j. true)) (pos (whole_cost n))
            (less_sum (member_count n) (λ j. true) (share shares)) (less_parts (pos (whole_cost n))),
        ap (λ (k : ℕ). sum₀ k (λ i. plus (share shares i))) one_a_member,
        ap (λ (k : ℕ). sum₀ k (λ i. minus (share shares i))) one_a_member,
      )

  pub difference_is : sub_ℕ above (below + whole_cost n) ≡ difference n shares
  difference_is =
      less_same (sub_ℕ above (below + whole_cost n)) (difference n shares)
      (less_sub above (below + whole_cost n)) less_difference (omega arith)
