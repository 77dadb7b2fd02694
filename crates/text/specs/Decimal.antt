-- Numbers as text, in ASCII.
use Rattle.std.specs.Prelude.{ℕ, zero, suc, ◌+◌, ◌/◌, ◌%◌, true, false, List, [], ◌∷◌, ◌++◌, ℤ, pos, negsuc, ltb}

-- the code of a digit
abbrev pub digit_code : ℕ → ℕ
digit_code d = 48 + d

-- the digits of n; the first argument bounds the steps taken
unfoldable pub decimal_in : ℕ → ℕ → List ℕ
decimal_in zero n = digit_code n ∷ []
decimal_in (suc steps) n =
    elim (ltb n 10) [ true ↦ digit_code n ∷ [] | false ↦ decimal_in steps (n / 10) ++ (digit_code (n % 10) ∷ []) ]

-- the decimal digits of n, no zeros in front of another digit
unfoldable pub decimal : ℕ → List ℕ
decimal n = decimal_in n n

-- a minus before a negative number, and no other sign
unfoldable pub signed_decimal : ℤ → List ℕ
signed_decimal (pos n) = decimal n
signed_decimal (negsuc n) = 45 ∷ decimal (suc n)
