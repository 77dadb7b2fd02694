-- What the functions on a list of keys find and write.
use Rattle.std.specs.Prelude.{ℕ, ◌+◌, ◌≤◌, ◌<◌, ◌≡◌, List, length, get_or, ltb}
use Rattle.basics.specs.Sum.{pick}
use Rattle.turns.specs.Keys.{key_limit}

-- no key is below the least or above the greatest
pub record Ends (keys : List ℕ) (least greatest : ℕ) : Type 0 where
  pub limit : greatest < key_limit
  pub low : (i : ℕ) → i < length keys → least ≤ get_or keys i 0
  pub high : (i : ℕ) → i < length keys → get_or keys i 0 ≤ greatest

-- every key as it is, or a tally higher where it is below the bound
pub record Raised (base bound : ℕ) (before after : List ℕ) : Type 0 where
  pub kept : length after ≡ length before
  pub raised : (i : ℕ) → i < length before
      → get_or after i 0 ≡ get_or before i 0 + pick (ltb (get_or before i 0) bound) base
