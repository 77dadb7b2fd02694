-- What the passes over a tree ask of its lists.
use Rattle.std.specs.Prelude.{ℕ, suc, ◌≤◌, ◌≡◌, Bool, true, false, List, [], length, get_or, eqb}
use Rattle.basics.specs.Sum.{some}
use Rattle.game.specs.Network.{Network, members}
use Rattle.game.specs.Tree.{of_arc, has_child, marked}
use Rattle.limits.specs.Limits.{most_cost, most_share, most_arcs}

-- at most 1,023 arcs, each with a parent below it
pub record Sound (parents : List ℕ) : Type 0 where
  pub few : length parents ≤ most_arcs
  pub rising : (v : ℕ) → of_arc parents (suc v) ≤ v

-- one cost an arc, none above the limit
pub record Costed (parents costs : List ℕ) : Type 0 where
  pub sized : length costs ≡ length parents
  pub limited : (k : ℕ) → of_arc costs k ≤ most_cost

-- one mark a vertex from 1 on, and no marked vertex has a child
pub record Marked (parents marks : List ℕ) : Type 0 where
  pub sized : length marks ≡ length parents
  pub ends : (v : ℕ) → marked marks v ≡ true → has_child parents v ≡ false

-- v is one of the vertices in a list
unfoldable pub listed : List ℕ → ℕ → Bool
listed vertices v = some (length vertices) (λ i. eqb (of_arc vertices i) v)

-- the network of a list of parents and of costs whose members stand at the vertices of a list
abbrev pub network_at : List ℕ → List ℕ → List ℕ → Network
network_at parents costs vertices =
    record { arcs = length parents; parent = of_arc parents; member = listed vertices; cost = of_arc costs }

-- the list has the members' vertices in rising order, and none of them has a child
pub record Listed (parents vertices : List ℕ) : Type 0 where
  pub are : vertices ≡ members (network_at parents [] vertices)
  pub ends : (v : ℕ) → listed vertices v ≡ true → has_child parents v ≡ false

-- one cap a member, none above the limit
pub record Capped (members : ℕ) (caps : List ℕ) : Type 0 where
  pub sized : length caps ≡ members
  pub limited : (j : ℕ) → get_or caps j 0 ≤ most_share
