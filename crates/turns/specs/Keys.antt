-- One arc's users as a list of keys, and the tallies that it hands back.
use Rattle.std.specs.Prelude.{ℕ, suc, ◌+◌, ◌≤◌, ◌<◌, ◌≡◌, true, List, length, get_or}
use Rattle.limits.specs.Limits.{most_arcs}
use Rattle.game.specs.Network.{Network, member_count}
use Rattle.game.specs.ByArc.{user_count, leftover, tallied}
use Rattle.game.proofs.Keys.{below, key_of}
use Rattle.users.specs.Users.{Lists}

-- the keys of the members in a list, in its order: a member's tally times the base, and its number
pub record KeysOf (base : ℕ) (tallies us keys : List ℕ) : Type 0 where
  pub sized : length keys ≡ length us
  pub keyed : (i : ℕ) → i < length us → get_or keys i 0 ≡ key_of base tallies (get_or us i 0)

-- how many keys are below a bound
abbrev pub lower : List ℕ → ℕ → ℕ
lower keys = below (length keys) (λ i. true) (λ i. get_or keys i 0)

-- every key is below it: 2^20
abbrev pub key_limit : ℕ
key_limit = 1048576

-- at most 1,023 keys below the limit, no two the same: below the next bound there is at most one more
pub record Keys (keys : List ℕ) : Type 0 where
  pub few : length keys ≤ most_arcs
  pub limited : (i : ℕ) → i < length keys → get_or keys i 0 < key_limit
  pub single : (bound : ℕ) → lower keys (suc bound) ≤ lower keys bound + 1

-- on every network and arc whose users the keys stand for, in any order: with as many units as the arc leaves over,
-- the keys afterwards are those by the tallies that the arc hands back
pub record HandedBack (base more : ℕ) (before after : List ℕ) : Type 0 where
  pub is : (n : Network) (k : ℕ) (tallies us : List ℕ) → Lists n k us → member_count n ≤ base
      → (0 < user_count n k → more ≡ leftover n k)
      → KeysOf base tallies us before → KeysOf base (tallied n k tallies) us after
