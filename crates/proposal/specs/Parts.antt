-- The sums of the shares' parts.
use Rattle.std.specs.Prelude.{ℕ, ◌≤◌, ◌≡◌, List, length, ℤ}
use Rattle.limits.specs.Inner.{most_total}
use Rattle.basics.specs.Sum.{sum₀}
use Rattle.game.specs.Proposal.{share}
use Rattle.basics.specs.Integer.{plus, minus}

-- of all shares, the sum of the positive parts and that of the negative parts
abbrev pub plus_sum : List ℤ → ℕ
plus_sum l = sum₀ (length l) (λ i. plus (share l i))

abbrev pub minus_sum : List ℤ → ℕ
minus_sum l = sum₀ (length l) (λ i. minus (share l i))

-- the two numbers are these sums, and neither is above 1,023 times the greatest share
pub record Summed (l : List ℤ) (above below : ℕ) : Type 0 where
  pub plus_is : above ≡ plus_sum l
  pub minus_is : below ≡ minus_sum l
  pub plus_most : above ≤ most_total
  pub minus_most : below ≤ most_total
