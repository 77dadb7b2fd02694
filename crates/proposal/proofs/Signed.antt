-- The difference of two numbers as a signed number.
use Prim.Native.Nat.{ℕ, zero, suc, ◌^◌, ◌<◌}
use mathlib.Core.Path.{◌≡◌, refl, ap}
use native.Mathlib.Decide.{dec_lt}
use native.Mathlib.Omega.{arith}
use borrow.Author.Tests.{lt-ltb, le-ltb}
use lib.IntN.{pos, ◌-ℤ◌, sub_ℕ}
use lib.Signed.{mag}
use mir.Syntax.{w64}
use mir.Val.{SFits, to_z}
use mir.Facts.{to_z_pos}

pos_less : (a b : ℕ) → pos a -ℤ pos b ≡ sub_ℕ a b
pos_less a zero = rw (le-ltb a 0 (omega arith)) (ap pos (omega arith))
pos_less a (suc b) = refl

mag_less : (a b h : ℕ) → a < h → b < h → mag (sub_ℕ a b) < h
mag_less a b h p q =
    elim (dec_lt a b) [
      | yes l ↦ rw (lt-ltb a b l) (omega arith)
      | no l ↦ rw (le-ltb a b (omega arith)) (omega arith)
    ]

-- two u64 that an i64 holds
module _ (a b : ℕ) (ha : a < 2 ^ 63) (hb : b < 2 ^ 63) where
  -- their difference, and that an i64 holds it
  pub less_is : to_z w64 a -ℤ to_z w64 b ≡ sub_ℕ a b
  less_is = rw (to_z_pos w64 ha, to_z_pos w64 hb) (pos_less a b)

  pub less_fits : SFits w64 (sub_ℕ a b)
  less_fits = record { sfits = mag_less a b (2 ^ 63) ha hb }
