-- A run of clear bits of a group.
use Rattle.std.specs.Prelude.{ℕ, ◌+◌, ◌<◌, ◌≤◌, ◌≡◌, true, false, List}
use Rattle.basics.specs.Bit.{bit}

-- the r bits from bit j on are clear; where r is 0, bit j is set
pub record ClearRun (words : List ℕ) (j r : ℕ) : Type 0 where
  pub clear : (k : ℕ) → j ≤ k → k < j + r → bit words k ≡ false
  pub none : r ≡ 0 → bit words j ≡ true
  pub small : r ≤ 64
