-- A signed number by its bits: its sign, what -1 less it is, and the two halves of those.
use Prim.Native.Nat.{ℕ, zero, suc, ◌-◌, ◌^◌, ◌<◌, ◌≤◌}
use mathlib.Core.Path.{◌≡◌, refl, sym, ap, ◌∙◌}
use mathlib.Core.Bool.{Bool, true, false, true≢false}
use native.Mathlib.Decide.{dec_lt}
use native.Mathlib.Omega.{arith}
use borrow.Author.Tests.{eqb-true, ltb-true, lt-ltb, le-ltb}
use lib.Dec.{eqb}
use lib.IntN.{ℤ, pos, negsuc, nat_abs, ◌-ℤ◌, sub_ℕ}
use lib.Signed.{mag, lt_z}
use mir.Syntax.{w64}
use mir.Val.{SFits, to_z, of_z}
use mir.Facts.{to_z-of_z}
use Rattle.basics.proofs.Bools.{same_test}
use Rattle.numbers.specs.Signed.{is_zero, signed64, bits64}

below_zero : (z : ℤ) → lt_z z (pos 0) ≡ true → z ≡ negsuc (mag z)
below_zero (pos a) e = absurd (omega (arith, ltb-true a 0 e))
below_zero (negsuc a) e = refl

from_zero : (z : ℤ) → lt_z z (pos 0) ≡ false → z ≡ pos (mag z)
from_zero (pos a) e = refl
from_zero (negsuc a) e = absurd (true≢false e)

zero_is : (z : ℤ) → is_zero z ≡ true → z ≡ pos 0
zero_is (pos a) e = ap pos (eqb-true a 0 e)
zero_is (negsuc a) e = absurd (true≢false (sym e))

one_less : (m : ℕ) → sub_ℕ (suc m) 1 ≡ pos m
one_less m = rw (le-ltb (suc m) 1 (omega arith)) (ap pos (omega arith))

-- x is an i64, and the code sees it by its bits
module _ {x : ℤ} (fits : SFits w64 x) where
  -- x below 0, and x from 0 on
  pub negative : lt_z (to_z w64 (of_z w64 x)) (pos 0) ≡ true → x ≡ negsuc (mag x)
  negative e = below_zero x (rw (to_z-of_z fits) at e)

  pub other : lt_z (to_z w64 (of_z w64 x)) (pos 0) ≡ false → x ≡ pos (mag x)
  other e = from_zero x (rw (to_z-of_z fits) at e)

  -- the bits are compared with 0
  pub zero_bits : eqb (of_z w64 x) 0 ≡ is_zero x
  zero_bits =
      same_test (eqb (of_z w64 x) 0) (is_zero x)
      (λ e. ap is_zero (sym (to_z-of_z fits) ∙ ap (to_z w64) (eqb-true (of_z w64 x) 0 e)))
      (λ e. ap (λ (z : ℤ). eqb (of_z w64 z) 0) (zero_is x e))

  -- b is what a caller is told of x
  pub zero_told : {b : Bool} → b ≡ is_zero (to_z w64 (of_z w64 x)) → is_zero x ≡ b
  zero_told e = ap is_zero (sym (to_z-of_z fits)) ∙ sym e

  -- -1 less x, where x is below 0
  pub turned : lt_z (to_z w64 (of_z w64 x)) (pos 0) ≡ true → negsuc 0 -ℤ to_z w64 (of_z w64 x) ≡ pos (mag x)
  turned e = rw (to_z-of_z fits, negative e) (one_less (mag x))

-- -1 less a
pub turned_back : (a : ℕ) → negsuc 0 -ℤ pos a ≡ negsuc a
turned_back zero = refl
turned_back (suc a) = ap negsuc (omega arith)

-- the number with the bits of the lower half, and of the upper
pub lower : (bits : ℕ) → bits < 2 ^ 63 → signed64 bits ≡ pos bits
unfolding signed64
lower bits h = rw (lt-ltb bits (2 ^ 63) h)

pub upper : (bits : ℕ) → 2 ^ 63 ≤ bits → signed64 bits ≡ negsuc (2 ^ 64 - 1 - bits)
unfolding signed64
upper bits h = rw (le-ltb bits (2 ^ 63) h)

-- the bits of the number with these bits, and the number with a number's bits
pub bits_of_signed : (bits : ℕ) → bits < 2 ^ 64 → bits64 (signed64 bits) ≡ bits
unfolding bits64
bits_of_signed bits h =
    elim (dec_lt bits (2 ^ 63)) [
      | yes l ↦ rw (lower bits l)
      | no l ↦ rw (upper bits (omega arith)) (omega arith)
    ]

pub signed_of_bits : (x : ℤ) → nat_abs x < 2 ^ 63 → signed64 (bits64 x) ≡ x
unfolding bits64
signed_of_bits (pos n) h = lower n h
signed_of_bits (negsuc n) h = upper (2 ^ 64 - 1 - n) (omega (arith, h)) ∙ ap negsuc (omega (arith, h))

pub bits_small : (x : ℤ) → nat_abs x < 2 ^ 63 → bits64 x < 2 ^ 64
unfolding bits64
bits_small (pos n) h = omega (arith, h)
bits_small (negsuc n) h = omega (arith, h)
