-- The search for the bound: two numbers that come nearer to each other.
use Prim.Native.Nat.{ℕ, zero, suc, ◌+◌, ◌-◌, ◌≤◌, ◌<◌}
use mathlib.Core.Path.{◌≡◌, ap, ◌∙◌}
use mathlib.Core.Bool.{true}
use mathlib.Core.List.{List}
use native.Mathlib.Decide.{dec_lt}
use native.Mathlib.Numerals.{add-one}
use native.Mathlib.Omega.{arith}
use borrow.Author.Tests.{le-ltb}
use lib.ListN.{length, get_or}
use lib.Dec.{ltb}
use Rattle.basics.specs.Sum.{size}
use Rattle.basics.proofs.Sizes.{size_more, size_none}
use Rattle.game.proofs.Keys.{below_mono, below_all}
use Rattle.turns.specs.Keys.{lower, key_limit, Keys}
use Rattle.turns.specs.Bound.{Ends}

size_all : (n : ℕ) → size n (λ i. true) ≡ n
size_all zero = size_none 0 (λ i. true) (λ i h. absurd (omega arith))
size_all (suc n) = omega (arith, size_more n (λ i. true), size_all n)

module _ (keys : List ℕ) where
  lower_mono : (s t : ℕ) → s ≤ t → lower keys s ≤ lower keys t
  lower_mono s t h = below_mono (length keys) (λ i. true) (λ i. get_or keys i 0) s t h

  module _ (more : ℕ) where
    -- `under` keys are below `low`, no more than the units, and `over` below `high`, which is more
    pub record Bracket (low high under over tries : ℕ) : Type 0 where
      pub limit : high ≤ key_limit
      pub below_low : lower keys low ≡ under
      pub below_high : lower keys high ≡ over
      pub enough : under ≤ more
      pub too_many : more < over
      pub counted : tries + (high - low) ≤ key_limit

    pub bracket_start : more < length keys → (least greatest : ℕ) → Ends keys least greatest
        → Bracket least (greatest + 1) 0 (length keys) 0
    bracket_start some least greatest ends =
        record {
          limit = omega (arith, ends.limit);
          below_low =
              size_none (length keys) (λ i. ltb (get_or keys i 0) least)
              (λ i h. le-ltb (get_or keys i 0) least (ends.low i h));
          below_high =
              below_all (length keys) (λ i. true) (λ i. get_or keys i 0) (greatest + 1)
              (λ i h. omega (arith, ends.high i h))
              ∙ size_all (length keys);
          enough = omega arith;
          too_many = some;
          counted = omega (arith, ends.limit);
        }

    module _ {low high under over tries : ℕ} (b : Bracket low high under over tries) where
      pub bracket_order : low < high
      bracket_order =
          elim (dec_lt low high) [
            | yes h ↦ h
            | no h ↦
                absurd
                (omega (
                  arith,
                  lower_mono high low (omega arith),
                  b.below_low,
                  b.below_high,
                  b.enough,
                  b.too_many,
                ))
          ]

      -- some bound is between them
      pub bracket_wide : Keys keys → under < more → low + 1 < high
      bracket_wide ok h =
          elim (dec_lt (low + 1) high) [
            | yes l ↦ l
            | no l ↦
                absurd
                (omega (
                  arith,
                  lower_mono high (low + 1) (omega arith),
                  ap (lower keys) (add-one low),
                  ok.single low,
                  b.below_low,
                  b.below_high,
                  b.too_many,
                ))
          ]
