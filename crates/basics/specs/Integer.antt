-- Whole numbers of either sign: a condition, a finite sum, and the two parts of a number.
use Rattle.std.specs.Prelude.{ℕ, zero, suc, Bool, true, false, ℤ, pos, negsuc, ◌+ℤ◌}

-- x where the test holds, else 0
abbrev pub pick_ℤ : Bool → ℤ → ℤ
pick_ℤ true x = x
pick_ℤ false x = pos 0

-- f 0 + f 1 + .. + f (n - 1)
abbrev pub sum_ℤ : ℕ → (ℕ → ℤ) → ℤ
sum_ℤ zero f = pos 0
sum_ℤ (suc n) f = sum_ℤ n f +ℤ f n

-- the positive and the negative part of a whole number: x is `plus x` less `minus x`
abbrev pub plus : ℤ → ℕ
plus (pos a) = a
plus (negsuc a) = 0

abbrev pub minus : ℤ → ℕ
minus (pos a) = 0
minus (negsuc a) = suc a
