-- Signed numbers against 0, and by their bits.
use Rattle.std.specs.Prelude.{ℕ, ◌-◌, ◌^◌, Bool, false, cond, eqb, ltb, ℤ, pos, negsuc}

abbrev pub is_zero : ℤ → Bool
is_zero (pos n) = eqb n 0
is_zero (negsuc n) = false

-- the number with these 64 bits in two's complement
unfoldable pub signed64 : ℕ → ℤ
signed64 bits = cond (ltb bits (2 ^ 63)) (pos bits) (negsuc (2 ^ 64 - 1 - bits))

-- the 64 bits of a number in two's complement
unfoldable pub bits64 : ℤ → ℕ
bits64 (pos n) = n
bits64 (negsuc n) = 2 ^ 64 - 1 - n
