-- The level rule at one arc, in bulk: its users raised to a level.
use Prim.Native.Nat.{ℕ, ◌+◌, ◌-◌}
use mathlib.Core.List.{List}
use lib.ListN.{get_or}
use lib.Dec.{ltb}
use Rattle.basics.specs.Sum.{pick, sum₀, smaller}
use Rattle.game.specs.Network.{Network, member_count}
use Rattle.game.specs.Core.{users}

-- What member j takes where arc k's users are raised to a level, those with a number below q to one above it. Nobody
-- rises above its cap, and no share falls.
abbrev pub rise : Network → List ℕ → ℕ → List ℕ → ℕ → ℕ → ℕ → ℕ
rise n caps k shares level q j =
    pick (users n k j) (smaller (get_or caps j 0) (level + pick (ltb j q) 1) - get_or shares j 0)

-- what they take together
abbrev pub fill : Network → List ℕ → ℕ → List ℕ → ℕ → ℕ → ℕ
fill n caps k shares level q = sum₀ (member_count n) (rise n caps k shares level q)
