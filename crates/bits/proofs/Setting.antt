-- One bit more: in a word, and in the words of a group.
use Prim.Native.Nat.{ℕ, zero, suc, max, ◌/◌, ◌%◌, ◌^◌, ◌<◌}
use mathlib.Core.Path.{◌≡◌, refl, sym, ap, ◌∙◌}
use mathlib.Core.Bool.{◌||◌, or-false}
use mathlib.Core.List.{List}
use native.Mathlib.Nat.{pow-suc, zero-div, zero-max}
use native.Mathlib.Decide.{ℕ_discrete}
use native.Mathlib.Omega.{arith}
use borrow.Author.Tests.{eqb-true, eq-eqb, ne_eqb}
use lib.Bits.{bit_or, or_shr, or_step}
use lib.Dec.{eqb, eqb-zero-suc, eqb-suc-zero, eqb-suc-suc}
use lib.ListN.{length, get_or, set}
use lib.Seq.{get_or-set_same, get_or-set_other}
use Rattle.basics.specs.Bit.{digit, bit}
use Rattle.game.specs.Group.{words_of}
use Rattle.basics.proofs.Bools.{same_test}
use Rattle.game.proofs.Encoding.{digit_half, words_length}

either : (p q : ℕ) → p < 2 → q < 2 → eqb (max p q) 1 ≡ (eqb p 1 || eqb q 1)
either zero q h l = ap (λ (x : ℕ). eqb x 1) (zero-max q)
either (suc zero) q h l = eq-eqb (max 1 q) 1 (omega arith)
either (suc (suc p)) q h l = absurd (omega arith)

or_digit : (a b k : ℕ) → digit (bit_or a b) k ≡ (digit a k || digit b k)
or_digit a b k =
    let x = a / 2 ^ k in
    let y = b / 2 ^ k in
    let last : bit_or x y % 2 ≡ max (x % 2) (y % 2) = omega (arith, or_step x y) in
    rw (or_shr, last) (either (x % 2) (y % 2) (omega arith) (omega arith))

power_digit : (i k : ℕ) → digit (2 ^ i) k ≡ eqb k i
power_digit zero zero = refl
power_digit zero (suc k) = digit_half 1 k ∙ rw (zero-div, eqb-suc-zero)
power_digit (suc i) zero = ne_eqb (2 ^ suc i / 1 % 2) 1 (λ e. omega (arith, pow-suc 2 i)) ∙ sym (eqb-zero-suc i)
power_digit (suc i) (suc k) =
    let half : 2 ^ suc i / 2 ≡ 2 ^ i = omega (arith, pow-suc 2 i) in
    digit_half (2 ^ suc i) k ∙ rw (half, eqb-suc-suc) (power_digit i k)

-- bit i set in a word
pub set_digit : (w i k : ℕ) → digit (bit_or w (2 ^ i)) k ≡ (digit w k || eqb k i)
set_digit w i k = or_digit w (2 ^ i) k ∙ ap (λ b. digit w k || b) (power_digit i k)

-- bit j set in its word, where the words are a group's and so are sixteen
pub bit_set : (words : List ℕ) (w i j : ℕ) → words ≡ words_of (bit words) → j < 1024
    → ((k : ℕ) → digit w k ≡ (digit (get_or words (j / 64) 0) k || eqb k (j % 64)))
    → bit (set words (j / 64) w) i ≡ (bit words i || eqb i j)
unfolding bit
bit_set words w i j g h d =
    elim (ℕ_discrete (i / 64) (j / 64)) [
      | yes e ↦
          rw (e, get_or-set_same words (j / 64) w 0 (omega (arith, ap length g, words_length (bit words))), d (i % 64))
          (ap (λ b. digit (get_or words (j / 64) 0) (i % 64) || b) (same_place e))
      | no n ↦ rw
          (get_or-set_other words (j / 64) (i / 64) w 0 n, ne_eqb i j (λ e. n (ap (λ (x : ℕ). x / 64) e)), or-false)
    ]
  where
    same_place : i / 64 ≡ j / 64 → eqb (i % 64) (j % 64) ≡ eqb i j
    same_place e =
        same_test (eqb (i % 64) (j % 64)) (eqb i j)
        (λ t. eq-eqb i j (omega (arith, eqb-true (i % 64) (j % 64) t)))
        (λ t. eq-eqb (i % 64) (j % 64) (ap (λ (x : ℕ). x % 64) (eqb-true i j t)))
