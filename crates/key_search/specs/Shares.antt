-- The level rule at given bounds: what is asked of them, and the shares read off at the keys that the search finds.
use Rattle.std.specs.Prelude.{◌≡◌, ℕ, ◌≤◌, true, List, [], length, slice_index}
use Rattle.basics.proofs.Sums.{In}
use Rattle.game.specs.Network.{number}
use Rattle.game.specs.Tree.{of_arc}
use Rattle.game.specs.Level.{level}
use Rattle.game.specs.Inward.{of_children, amount_of}
use Rattle.game.specs.LevelKeys.{at_key}
use Rattle.tree.specs.Passes.{network_at}
use Rattle.answers.specs.Level.{cap_sum}
use Rattle.key_passes.specs.Passes.{at}

-- one bound an arc; an arc's child arcs have together at most its own, and the caps of its users are enough for it
pub record Bounds (parents vertices caps bounds : List ℕ) : Type 0 where
  pub sized : length bounds ≡ length parents
  pub grows : (k : ℕ) → In (length parents) k
      → of_children (network_at parents [] vertices) (of_arc bounds) k ≤ of_arc bounds k
  pub covered : (k : ℕ) → In (length parents) k → of_arc bounds k ≤ cap_sum (network_at parents [] vertices) caps k

-- the level split where the users of each arc have the arc's bound together when it has given out
abbrev pub level_at : List ℕ → List ℕ → List ℕ → List ℕ → List ℕ
level_at parents vertices caps bounds =
    let n = network_at parents [] vertices in level n caps (amount_of n (of_arc bounds))

-- each member has its share of it at the key that stands at its vertex
pub record Found (parents vertices caps bounds keys : List ℕ) : Type 0 where
  pub share : (v : ℕ) → In (length parents) v → (network_at parents [] vertices).member v ≡ true
      → at_key caps (at keys v) (number (network_at parents [] vertices) v)
      ≡ slice_index (level_at parents vertices caps bounds) (number (network_at parents [] vertices) v)
