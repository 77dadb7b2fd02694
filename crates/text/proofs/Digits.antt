-- The library's digits, in their fewest number, are the decimal digits.
use Prim.Native.Nat.{ℕ, zero, suc, ◌+◌, ◌*◌, ◌-◌, ◌/◌, ◌%◌, ◌^◌, ◌<◌, ◌≤◌}
use mathlib.Core.Path.{◌≡◌, ap, ◌∙◌}
use mathlib.Core.List.{List, [], ◌∷◌, ◌++◌}
use native.Mathlib.Decide.{dec_lt}
use native.Mathlib.Nat.{pow-succ', pow-le-pow_right, sub-zero}
use native.Mathlib.Omega.{arith}
use lib.ListN.{take}
use borrow.Author.Tests.{lt-ltb, le-ltb}
use Rattle.io.specs.Digits.{last_digits, hex_digit_ascii, IsDigitCount}
use Rattle.text.specs.Decimal.{decimal_in, decimal}

last_digit : (n : ℕ) → hex_digit_ascii (n % 10) ≡ 48 + n % 10
last_digit n = rw (lt-ltb (n % 10) 10 (omega arith))

one_digit : (n : ℕ) → n < 10 → last_digits 10 1 n ≡ (48 + n) ∷ []
one_digit n h = let e : n % 10 ≡ n = omega arith in rw (last_digit n, e)

above : (j : ℕ) → j < 10 ^ j
above zero = omega arith
above (suc j) = rw pow-succ' (omega (arith, above j))

-- more steps than digits change nothing
digits_in : (j steps n : ℕ) → j ≤ steps → n < 10 ^ suc j → (0 < j → 10 ^ j ≤ n)
    → last_digits 10 (suc j) n ≡ decimal_in steps n
unfolding decimal_in
digits_in zero zero n l u h = one_digit n u
digits_in zero (suc steps) n l u h = rw (lt-ltb n 10 u, decimal_in) (one_digit n u)
digits_in (suc j) zero n l u h = absurd (omega arith)
digits_in (suc j) (suc steps) n l u h =
    rw (le-ltb n 10 (omega (arith, lower, above j)), decimal_in, last_digit n)
    (ap (λ (d : List ℕ). d ++ ((48 + n % 10) ∷ []))
    (digits_in j steps (n / 10) (omega arith) (omega (arith, upper)) (λ z. omega (arith, lower))))
  where
    lower : 10 * 10 ^ j ≤ n
    lower = rw pow-succ' at (h (omega arith))

    upper : n < 10 * 10 ^ suc j
    upper = rw pow-succ' at u

fewest_decimal : (n k : ℕ) → IsDigitCount 10 1 n k → last_digits 10 k n ≡ decimal n
unfolding decimal
fewest_decimal n zero f = absurd (omega (arith, f.0))
fewest_decimal n (suc j) f = digits_in j n n steps f.1 least
  where
    least : 0 < j → 10 ^ j ≤ n
    least h = let e : suc j - 1 ≡ j = omega arith in rw e at (f.2 (omega arith))

    steps : j ≤ n
    steps = elim (dec_lt 0 j) [ yes h ↦ omega (arith, least h, above j) | no h ↦ omega arith ]

pub front_decimal : {n k : ℕ} (text : List ℕ) → IsDigitCount 10 1 n k → take k text ≡ last_digits 10 k n
    → take (k - 0) text ≡ decimal n
front_decimal {n} {k} text f e = rw sub-zero (e ∙ fewest_decimal n k f)

-- a 64-bit number has at most 20 digits
pub few_digits : {n k : ℕ} → n < 2 ^ 64 → IsDigitCount 10 1 n k → k ≤ 20
few_digits {n} {k} small f =
    elim (dec_lt 20 k) [
      | yes h ↦
          let large = pow-le-pow_right {n = 10} (omega arith) {i = 20} {j = k - 1} (omega arith) in
          absurd (omega (arith, small, f.2 (omega arith), large))
      | no h ↦ omega arith
    ]
