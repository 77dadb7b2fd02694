-- What the contracts say of bytes in hexadecimal.
use Rattle.std.specs.Prelude.{ℕ, ◌+◌, ◌*◌, ◌/◌, ◌%◌, ◌<◌, ◌≤◌, ◌≡◌, Bool, true, cond, ◌&&◌, ◌||◌, List}
use Rattle.std.specs.Prelude.{[], ◌∷◌, eqb, leb, ltb, get_or, length}
use Rattle.std.proofs.Math.Seq.{paste}
use Rattle.test_lines.specs.Bytes.{index_of}

-- the digits 0 to 9 and a to f, each at its value
unfoldable pub DIGITS : List ℕ
DIGITS = 48 ∷ 49 ∷ 50 ∷ 51 ∷ 52 ∷ 53 ∷ 54 ∷ 55 ∷ 56 ∷ 57 ∷ 97 ∷ 98 ∷ 99 ∷ 100 ∷ 101 ∷ 102 ∷ []

-- a digit's value; 16 for another byte
unfoldable pub digit_of : ℕ → ℕ
digit_of byte = index_of byte DIGITS

unfoldable pub all_digits : List ℕ → Bool
all_digits [] = true
all_digits (x ∷ s) = ltb (digit_of x) 16 && all_digits s

-- the list has n entries, and the first n are digits
pub record Digits (n : ℕ) (s : List ℕ) : Type 0 where
  pub within : n ≤ length s
  pub each : (k : ℕ) → k < n → digit_of (get_or s k 0) < 16

-- the bytes, two digits each
unfoldable pub bytes_of : List ℕ → List ℕ
bytes_of [] = []
bytes_of (high ∷ []) = []
bytes_of (high ∷ low ∷ s) = (16 * digit_of high + digit_of low) ∷ bytes_of s

-- "-", which stands for no bytes
unfoldable pub is_dash : List ℕ → Bool
is_dash s = eqb (length s) 1 && eqb (get_or s 0 0) 45

-- the digits of 1 to `room` bytes
unfoldable pub is_digits : List ℕ → ℕ → Bool
is_digits s room = ltb 0 (length s) && (eqb (length s % 2) 0 && (leb (length s / 2) room && all_digits s))

unfoldable pub is_hex : List ℕ → ℕ → Bool
is_hex s room = is_dash s || is_digits s room

-- a field s is read into the front of `list`, which is then `after`; where it cannot be read, nothing is written
pub record HexRead (s list after : List ℕ) (readable : Bool) (count : ℕ) : Type 0 where
  pub readable_is : readable ≡ is_hex s (length list)
  pub count_is : count ≡ cond readable (length (bytes_of s)) 0
  pub within : count ≤ length after
  pub after_is : after ≡ paste list 0 (bytes_of s) count
