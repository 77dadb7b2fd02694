-- An accepted proposal: each share is within its range, and so are the sums of the shares' parts.
use Prim.Native.Nat.{ℕ, suc, ◌+◌, ◌≤◌, ◌<◌}
use mathlib.Core.Path.{◌≡◌, refl, ap, ◌∙◌}
use mathlib.Core.List.{List}
use native.Mathlib.Nat.{le_trans}
use native.Mathlib.Omega.{arith}
use borrow.Author.Tests.{ltb-false}
use lib.ListN.{length}
use lib.IntN.{ℤ, pos, negsuc, nat_abs}
use Rattle.basics.specs.Sum.{sum₀}
use Rattle.game.specs.Proposal.{share}
use Rattle.basics.specs.Integer.{plus, minus}
use Rattle.basics.proofs.Sums.{sum₀_bound}
use Rattle.answer_forms.specs.Answer.{accepted}
use Rattle.answers.specs.Checks.{proposal_check, outside_share}
use Rattle.limits.specs.Limits.{most_share, most_arcs}
use Rattle.limits.specs.Inner.{most_total}
use Rattle.answers.proofs.InRange.{list_accepted}
use Rattle.proposal.specs.Parts.{Summed}

pub share_most : (members : ℕ) (l : List ℤ) → proposal_check members l ≡ accepted → (j : ℕ)
    → nat_abs (share l j) ≤ most_share
share_most members l e j =
    ltb-false most_share (nat_abs (share l j)) ((list_accepted outside_share (pos 0) members l refl e).inside j)

-- a part of a number is at most the number's size
pub plus_size : (z : ℤ) → plus z ≤ nat_abs z
plus_size (pos a) = omega arith
plus_size (negsuc a) = omega arith

pub minus_size : (z : ℤ) → minus z ≤ nat_abs z
minus_size (pos a) = omega arith
minus_size (negsuc a) = omega arith

-- the sum of one part of the first n shares
abbrev pub part_sum : (ℤ → ℕ) → List ℤ → ℕ → ℕ
part_sum part l n = sum₀ n (λ i. part (share l i))

pub sum_most : (part : ℤ → ℕ) (l : List ℤ) (members : ℕ) → ((z : ℤ) → part z ≤ nat_abs z)
    → proposal_check members l ≡ accepted → (n : ℕ) → n ≤ most_arcs → part_sum part l n ≤ most_total
sum_most part l members size checked n h =
    omega (
      arith,
      sum₀_bound n most_share {f = λ i. part (share l i)}
          (λ i within. le_trans (size (share l i)) (share_most members l checked i)),
    )

module _ (l : List ℤ) (checked : proposal_check (length l) l ≡ accepted) (few : length l ≤ most_arcs) where
  -- s is the sum of one part of the first n shares, x the part of the next one
  pub next_most : (part : ℤ → ℕ) → ((z : ℤ) → part z ≤ nat_abs z) → (n : ℕ) {s x : ℕ} → n < length l
      → s ≡ part_sum part l n → x ≡ part (share l n) → s + x ≤ most_total
  next_most part size n h e d = omega (arith, sum_most part l (length l) size checked (suc n) (omega arith))

  pub all_summed : {n a b : ℕ} → n ≡ length l → a ≡ part_sum plus l n → b ≡ part_sum minus l n → Summed l a b
  all_summed {n} e p m =
      record {
        plus_is = p ∙ ap (part_sum plus l) e;
        minus_is = m ∙ ap (part_sum minus l) e;
        plus_most = omega (arith, sum_most plus l (length l) plus_size checked n (omega arith));
        minus_most = omega (arith, sum_most minus l (length l) minus_size checked n (omega arith));
      }
