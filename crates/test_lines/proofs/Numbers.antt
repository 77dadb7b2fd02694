-- Digits read one after another.
use Rattle.std.proofs.Common.{◌≡◌, ℕ, ◌+◌, ◌*◌, ◌<◌, ◌≤◌, ◌^◌, List, [], ◌∷◌, add-one, arith}
use Rattle.std.proofs.Common.{drop-cons, get_or, drop, length, refl, sym}
use Rattle.std.proofs.Math.ListN.{drop_of_length-le}
use Rattle.std.specs.Char.{digit_value}
use Rattle.std.specs.Str.Parse.{AllDigits, IsNumeral, digits_value, digits_value_after}

-- more digits make no number smaller
digits_value_after-le : (n : ℕ) (digits : List ℕ) → n ≤ digits_value_after 10 n digits
digits_value_after-le n [] = omega arith
digits_value_after-le n (c ∷ digits) =
    omega (arith, digits_value_after-le (n * 10 + digit_value c) digits)

-- the first i of the bytes are digits, and write n
pub record ReadTo (s : List ℕ) (i n : ℕ) : Type 0 where
  pub from_rest : AllDigits 10 (drop i s) → AllDigits 10 s
  pub to_rest : AllDigits 10 s → AllDigits 10 (drop i s)
  pub value : digits_value_after 10 n (drop i s) ≡ digits_value 10 s

module _ (s : List ℕ) where
  -- where the loop begins
  pub read_none : ReadTo s 0 0
  read_none = record { from_rest = λ all. all; to_rest = λ all. all; value = refl }

  module _ {i n : ℕ} (read : ReadTo s i n) where
    byte_next : i < length s → drop i s ≡ get_or s i 0 ∷ drop (i + 1) s
    byte_next h = rw add-one (drop-cons s i 0 h)

    -- a turn
    pub read_more : i < length s → digit_value (get_or s i 0) < 10
        → ReadTo s (i + 1) (n * 10 + digit_value (get_or s i 0))
    read_more h digit =
        let next = byte_next h in
        record {
          from_rest = λ all. read.from_rest (rw next (digit, all));
          to_rest = λ all. (rw next at (read.to_rest all)).1;
          value = rw next at read.value;
        }

    -- where it stops
    pub read_stop : i < length s
        → (digit_value (get_or s i 0) < 10 × (n * 10 + digit_value (get_or s i 0) < 2 ^ 64) → ⊥)
        → IsNumeral 10 s × (digits_value 10 s < 2 ^ 64) → ⊥
    read_stop h stop (numeral, small) =
        let next = byte_next h in
        let value = rw next at read.value in
        let grows = digits_value_after-le (n * 10 + digit_value (get_or s i 0)) (drop (i + 1) s) in
        stop ((rw next at (read.to_rest numeral.1)).0, omega arith)

    -- where it ends
    pub read_all : length s ≤ i → 0 < length s → n < 2 ^ 64
        → (IsNumeral 10 s × (digits_value 10 s < 2 ^ 64)) × (n ≡ digits_value 10 s)
    read_all h some small =
        let rest = drop_of_length-le s h in
        let value = rw rest at read.value in
        (((some, read.from_rest (rw rest tt)), rw (sym value) small), value)
