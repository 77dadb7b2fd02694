-- The count of ones in the named group's words is its number of members.
use Prim.Native.Nat.{ℕ, ◌+◌, ◌-◌, ◌≤◌}
use mathlib.Core.Path.{◌≡◌, ap, ◌∙◌}
use mathlib.Core.List.{List}
use native.Mathlib.Nat.{add-zero}
use native.Mathlib.Omega.{arith}
use lib.IntN.{ℤ}
use Rattle.limits.specs.Limits.{most_arcs}
use Rattle.game.specs.Network.{Network, member_count}
use Rattle.basics.specs.Bit.{bit}
use Rattle.basics.specs.Sum.{size}
use Rattle.game.specs.Group.{words_of}
use Rattle.game.specs.Search.{is_in, named}
use Rattle.basics.proofs.Sizes.{size_same, size_split, size_none}
use Rattle.game.proofs.Encoding.{bit_of_words}
use Rattle.game.proofs.Search.{named_ends}

pub named_size : (n : Network) (shares : List ℤ) → member_count n ≤ most_arcs
    → size 1024 (bit (words_of (is_in (named n shares)))) ≡ size (member_count n) (is_in (named n shares))
named_size n shares few =
    size_same 1024 (bit (words_of (is_in (named n shares)))) (is_in (named n shares))
    (λ j h. bit_of_words (is_in (named n shares)) j h)
    ∙ ap (λ (k : ℕ). size k (is_in (named n shares))) whole
    ∙ size_split (member_count n) (1024 - member_count n) (is_in (named n shares))
    ∙ ap (λ (x : ℕ). size (member_count n) (is_in (named n shares)) + x)
    (size_none (1024 - member_count n) (λ i. is_in (named n shares) (member_count n + i))
    (λ i h. named_ends n shares (member_count n + i) (omega arith)))
    ∙ add-zero (size (member_count n) (is_in (named n shares)))
  where
    whole : 1024 ≡ member_count n + (1024 - member_count n)
    whole = omega arith
