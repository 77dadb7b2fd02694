-- A tree as it is handed in, and the network that it describes.
use Rattle.std.specs.Prelude.{ℕ, zero, suc, Bool, not, List, length, get_or, eqb}
use Rattle.basics.specs.Sum.{pick, some, list}
use Rattle.game.specs.Network.{Network, used, everyone}

-- the parent and the cost of each arc, and the mark of the vertex that it enters: 1 where a member lives, else 0; entry
-- 0 is that of arc 1
pub record Tree : Type 0 where
  pub parents : List ℕ
  pub costs : List ℕ
  pub marks : List ℕ

abbrev pub tree_of : List ℕ → List ℕ → List ℕ → Tree
tree_of parents costs marks = record { parents = parents; costs = costs; marks = marks }

-- what a list holds for arc k: entry k - 1, and 0 where it has none
abbrev pub of_arc : List ℕ → ℕ → ℕ
of_arc l zero = 0
of_arc l (suc i) = get_or l i 0

-- vertex v has a child
unfoldable pub has_child : List ℕ → ℕ → Bool
has_child parents v = some (length parents) (λ u. eqb (of_arc parents u) v)

-- vertex v is marked
abbrev pub marked : List ℕ → ℕ → Bool
marked marks v = eqb (of_arc marks v) 1

-- the marks of the dead ends, the vertices that have no child
unfoldable pub dead_ends : List ℕ → List ℕ
dead_ends parents = list (length parents) (λ v. pick (not (has_child parents v)) 1)

-- the network of a list of parents, of costs and of marks: its members are the marked vertices
abbrev pub network_of : List ℕ → List ℕ → List ℕ → Network
network_of parents costs marks =
    record { arcs = length parents; parent = of_arc parents; member = marked marks; cost = of_arc costs }

-- an arc's counted cost: its cost where it has a user, else 0
abbrev pub counted : Network → ℕ → ℕ
counted n k = pick (used n everyone k) (n.cost k)

unfoldable pub counted_costs : Tree → List ℕ
counted_costs t = list (length t.parents) (counted (network_of t.parents t.costs t.marks))

-- a tree's network has the counted costs: an arc that nobody uses costs nothing
abbrev pub network : Tree → Network
network t = network_of t.parents (counted_costs t) t.marks

-- the tree whose marks are its dead ends
abbrev pub dead_end_tree : List ℕ → List ℕ → Tree
dead_end_tree parents costs = tree_of parents costs (dead_ends parents)
