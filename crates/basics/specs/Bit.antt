-- The bits of a word, and of a list of 64-bit words.
use Rattle.std.specs.Prelude.{ℕ, ◌/◌, ◌%◌, ◌^◌, Bool, List, get_or, eqb}

-- bit i of a word, bit 0 being the least significant
abbrev pub digit : ℕ → ℕ → Bool
digit word i = eqb (word / 2 ^ i % 2) 1

-- bit j of a list of words: bit j mod 64 of word j div 64
unfoldable pub bit : List ℕ → ℕ → Bool
bit words j = digit (get_or words (j / 64) 0) (j % 64)
