-- The equal parts on the way to a vertex, the members' tallies as keys, and the shares made of both.
use Rattle.std.specs.Prelude.{ℕ, ◌+◌, ◌/◌, ◌≤◌, ◌<◌, ◌≡◌, List, length, get_or}
use Rattle.limits.specs.Limits.{most_arcs}
use Rattle.basics.specs.Sum.{pick, sum}
use Rattle.game.specs.Network.{Network, at_or_below, member_count, members}
use Rattle.game.specs.Tree.{of_arc}
use Rattle.game.specs.ByArc.{handled}
use Rattle.game.proofs.Keys.{key_of}
use Rattle.users.specs.Layout.{slot}

-- the sum of x over the arcs on the way from vertex v to the source
unfoldable pub sum_above : Network → (ℕ → ℕ) → ℕ → ℕ
sum_above n x v = sum n.arcs (λ k. pick (at_or_below n k v) (x k))

-- after all arcs each member's key is at its place
pub record AllTallied (n : Network) (starts keys : List ℕ) : Type 0 where
  pub sized : length starts ≡ n.arcs
  pub kept : length keys ≡ member_count n
  pub within : (j : ℕ) → j < member_count n → slot (members n) starts j < length keys
  pub tallied : (j : ℕ) → j < member_count n
      → get_or keys (slot (members n) starts j) 0 ≡ key_of (member_count n) (handled n n.arcs).tallies j

-- every member's vertex has a start and a part, at the start is a key, and a part is within 62 bits
pub record Placed (vertices starts keys parts : List ℕ) : Type 0 where
  pub few : length vertices ≤ most_arcs
  pub kept : length keys ≡ length vertices
  pub last : (j : ℕ) → j < length vertices → get_or vertices j 0 ≤ length starts
  pub keyed : (j : ℕ) → j < length vertices → slot vertices starts j < length keys
  pub parted : (j : ℕ) → j < length vertices → get_or vertices j 0 ≤ length parts
  pub limited : (j : ℕ) → j < length vertices → of_arc parts (get_or vertices j 0) ≤ 4611686018427387904

-- member j's share: the parts on its way, and its tally
abbrev pub share_of : List ℕ → List ℕ → List ℕ → List ℕ → ℕ → ℕ
share_of vertices starts keys parts j =
    of_arc parts (get_or vertices j 0) + get_or keys (slot vertices starts j) 0 / length vertices
