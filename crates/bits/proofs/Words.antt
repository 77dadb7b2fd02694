-- The bits of a group's words: those that a shift shows to be clear, and how many of a word are ones.
use Prim.Native.Nat.{ℕ, zero, suc, ◌+◌, ◌*◌, ◌-◌, ◌/◌, ◌%◌, ◌^◌, ◌<◌, ◌≤◌}
use mathlib.Core.Path.{◌≡◌, ap, ◌∙◌}
use mathlib.Core.Bool.{false}
use mathlib.Core.List.{List}
use native.Mathlib.Nat.{zero-div}
use native.Mathlib.Numerals.{add-one, one-add}
use native.Mathlib.Omega.{arith}
use lib.ListN.{get_or}
use lib.Pow.{shr-shr, shr_lt}
use lib.Count.{ones, ones_step}
use Rattle.basics.specs.Bit.{digit, bit}
use Rattle.basics.specs.Sum.{size}
use Rattle.basics.proofs.Sizes.{size_split, size_same}
use Rattle.game.proofs.Encoding.{lowest, digit_half, bit_at}

-- where a word shifted down by j is 0, no bit from bit j to the word's end is set
pub clear_rest : (words : List ℕ) (j k : ℕ) → get_or words (j / 64) 0 / 2 ^ (j % 64) ≡ 0 → j ≤ k → k < j + (64 - j % 64)
    → bit words k ≡ false
unfolding bit
clear_rest words j k e l h =
    let q : k / 64 ≡ j / 64 = omega arith in
    let r : k % 64 ≡ j % 64 + (k - j) = omega arith in
    rw (q, r, ← shr-shr, e, zero-div)

-- a word's lowest bit, and the bits of its half
digits_step : (k w : ℕ) → size (suc k) (digit w) ≡ w % 2 + size k (digit (w / 2))
unfolding size
digits_step k w =
    let front : suc k ≡ 1 + k = omega arith in
    let rest : size k (λ i. digit w (1 + i))
    ≡ size k (digit (w / 2)) = size_same k _ _ (λ i h. ap (digit w) (one-add i) ∙ digit_half w i) in
    omega (arith, ap (λ (n : ℕ). size n (digit w)) front, size_split 1 k (digit w), lowest w)

-- the ones of a word of k bits are the bits that are set
pub ones_digits : (k w : ℕ) → w < 2 ^ k → ones w ≡ size k (digit w)
unfolding size ones
ones_digits zero w h = let e : w ≡ 0 = omega arith in rw e
ones_digits (suc k) w h = omega (arith, ones_step w, ones_digits k (w / 2) (shr_lt k 1 (rw add-one h)), digits_step k w)

-- one word more
pub size_word : (words : List ℕ) (i : ℕ)
    → size (64 * (i + 1)) (bit words) ≡ size (64 * i) (bit words) + size 64 (digit (get_or words i 0))
size_word words i =
    let e : 64 * (i + 1) ≡ 64 * i + 64 = omega arith in
    rw (e, size_split, size_same 64 _ _ (bit_at words i))
