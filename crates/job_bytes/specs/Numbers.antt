-- Numbers in bytes.
use Rattle.std.specs.Prelude.{ℕ, zero, suc, ◌+◌, ◌*◌, ◌/◌, ◌%◌, ◌<◌, List, [], ◌∷◌, get_or}

-- the byte at a place
abbrev pub byte_at : List ℕ → ℕ → ℕ
byte_at bytes at = get_or bytes at 0

-- the little-endian number of `width` bytes from a place on
unfoldable pub little_endian : List ℕ → ℕ → ℕ → ℕ
little_endian bytes at zero = 0
little_endian bytes at (suc width) = byte_at bytes at + 256 * little_endian bytes (at + 1) width

-- a number in `width` bytes, the least significant first
unfoldable pub in_bytes : ℕ → ℕ → List ℕ
in_bytes zero x = []
in_bytes (suc width) x = x % 256 ∷ in_bytes width (x / 256)

-- each entry is a byte
abbrev pub Bytes : List ℕ → Type 0
Bytes bytes = (at : ℕ) → byte_at bytes at < 256
