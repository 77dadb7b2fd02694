-- The tree cost game of METR 2003-14 on a network: who uses an arc, what a group costs, what an arc's users need to
-- pay.
use Rattle.std.specs.Prelude.{ℕ, zero, suc, pred, Bool, true, false, ◌&&◌, ◌||◌, List, [], ◌∷◌, ◌++◌, eqb}
use Rattle.basics.specs.Sum.{pick, sum, count, some}

-- Vertex 0 is the source. Arc k, for k from 1 to `arcs`, enters vertex k from `parent k`, a vertex numbered below k.
-- `member` tells which of the vertices from 1 on are members.
pub record Network : Type 0 where
  pub arcs : ℕ
  pub parent : ℕ → ℕ
  pub member : ℕ → Bool
  pub cost : ℕ → ℕ

-- v is k, or v is not the source and its parent is at or below k; the third argument bounds the steps taken
unfoldable pub climb : (ℕ → ℕ) → ℕ → ℕ → ℕ → Bool
climb p k zero v = eqb k v
climb p k (suc f) zero = eqb k 0
climb p k (suc f) (suc v) = eqb k (suc v) || climb p k f (p (suc v))

-- vertex v is at or below vertex k; a parent is the smaller number, so v steps reach the source
abbrev pub at_or_below : Network → ℕ → ℕ → Bool
at_or_below n k v = climb n.parent k v v

-- v is a user of arc k: a member at or below the vertex that the arc enters
abbrev pub user : Network → ℕ → ℕ → Bool
user n k v = n.member v && at_or_below n k v

-- arc k is used by the group of the members v with g v
unfoldable pub used : Network → (ℕ → Bool) → ℕ → Bool
used n g k = some n.arcs (λ v. g v && user n k v)

-- a group's cost: the costs of all arcs that at least one of its members uses
unfoldable pub group_cost : Network → (ℕ → Bool) → ℕ
group_cost n g = sum n.arcs (λ k. pick (used n g k) (n.cost k))

-- the group of all members
abbrev pub everyone : ℕ → Bool
everyone v = true

-- the sum of x over the vertices at or below vertex k
unfoldable pub sum_below : Network → (ℕ → ℕ) → ℕ → ℕ
sum_below n x k = sum n.arcs (λ v. pick (at_or_below n k v) (x v))

-- an arc's need: its cost plus the costs of all arcs below it
abbrev pub need : Network → ℕ → ℕ
need n = sum_below n n.cost

-- the sum of all costs
unfoldable pub whole_cost : Network → ℕ
whole_cost n = sum n.arcs n.cost

-- the number of members
abbrev pub member_count : Network → ℕ
member_count n = count n.arcs n.member

-- a member's number: how many members have a smaller vertex number
abbrev pub number : Network → ℕ → ℕ
number n v = count (pred v) n.member

-- the vertices up to v that are members, in rising order
unfoldable pub members_to : (ℕ → Bool) → ℕ → List ℕ
members_to member zero = []
members_to member (suc v) =
    elim (member (suc v)) [ true ↦ members_to member v ++ (suc v ∷ []) | false ↦ members_to member v ]

-- the members' vertices, entry j for member j
abbrev pub members : Network → List ℕ
members n = members_to n.member n.arcs
