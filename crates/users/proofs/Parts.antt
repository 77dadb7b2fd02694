-- An arc's part of the layout, as the code reads its start and count and lends it.
use Prim.Native.Nat.{ℕ, ◌+◌, ◌-◌, ◌≤◌}
use mathlib.Core.List.{List}
use native.Mathlib.Omega.{arith}
use lib.ListN.{length, get_or}
use Rattle.game.specs.Network.{Network}
use Rattle.users.specs.Users.{LaidOut}
pub use Rattle.game.proofs.ArcEntries.{arc_entry as entry}

module _ {n : Network} {starts counts order : List ℕ} (laid : LaidOut n starts counts order) (k : ℕ) (low : 1 ≤ k)
    (high : k ≤ n.arcs) where
  pub part_within : get_or starts (k - 1) 0 + get_or counts (k - 1) 0 ≤ length order
  part_within = omega (arith, laid.within k low high, entry starts k low, entry counts k low)
