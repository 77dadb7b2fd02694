-- A share outside its range, by comparison of signed numbers.
use Prim.Native.Nat.{suc, pred}
use mathlib.Core.Path.{◌≡◌}
use mathlib.Core.Bool.{true, false, false≢true}
use native.Mathlib.Omega.{arith}
use borrow.Author.Tests.{ltb-true, ltb-false, lt-ltb, le-ltb}
use lib.IntN.{ℤ, pos, negsuc, neg_ℤ}
use lib.Signed.{lt_z}
use Rattle.limits.specs.Limits.{most_share}
use Rattle.answers.specs.Checks.{outside_share}

pub low_outside : (z : ℤ) → lt_z z (neg_ℤ (pos most_share)) ≡ true → outside_share z ≡ true
low_outside (pos a) e = absurd (false≢true e)
low_outside (negsuc a) e = lt-ltb most_share (suc a) (omega (arith, ltb-true (pred most_share) a e))

pub high_outside : (z : ℤ) → lt_z (pos most_share) z ≡ true → outside_share z ≡ true
high_outside (pos a) e = e
high_outside (negsuc a) e = absurd (false≢true e)

pub neither_outside : (z : ℤ) → lt_z z (neg_ℤ (pos most_share)) ≡ false → lt_z (pos most_share) z ≡ false
    → outside_share z ≡ false
neither_outside (pos a) low high = high
neither_outside (negsuc a) low high = le-ltb most_share (suc a) (omega (arith, ltb-false (pred most_share) a low))
