-- The core, and the bounds of an arc's users that describe it.
use Rattle.std.specs.Prelude.{ℕ, ◌≤◌, ◌≡◌, Bool, true, not, List, get_or, ℤ, pos, ◌-ℤ◌, ◌≤ℤ◌}
use Rattle.basics.specs.Sum.{pick, sum}
use Rattle.game.specs.Network.{Network, at_or_below, used, group_cost, need, whole_cost, members}
use Rattle.game.specs.Group.{group_by_number}
use Rattle.game.specs.Proposal.{pays}

-- the users of arc k, and the members that do not use it, by member number
abbrev pub users : Network → ℕ → ℕ → Bool
users n k j = at_or_below n k (get_or (members n) j 0)

abbrev pub others : Network → ℕ → ℕ → Bool
others n k j = not (users n k j)

-- the paper's bound of an arc: the whole cost less the cost of the members that do not use it
abbrev pub bound : Network → ℕ → ℤ
bound n k = pos (whole_cost n) -ℤ pos (group_cost n (group_by_number n (others n k)))

-- the costs of the arcs that only the users of arc k use
unfoldable pub only_theirs : Network → ℕ → ℕ
only_theirs n k = sum n.arcs (λ e. pick (not (used n (group_by_number n (others n k)) e)) (n.cost e))

-- k is the number of an arc
pub record IsArc (n : Network) (k : ℕ) : Type 0 where
  pub first : 1 ≤ k
  pub last : k ≤ n.arcs

-- a list of whole shares adds up where everyone together pays the whole cost
abbrev pub AddsUp : Network → List ℤ → Type 0
AddsUp n shares = pays n shares (λ j. true) ≡ pos (whole_cost n)

-- the core: the list adds up and no group pays more than its own network's cost
pub record Core (n : Network) (shares : List ℤ) : Type 0 where
  pub adds_up : AddsUp n shares
  pub no_group_more : (g : ℕ → Bool) → pays n shares g ≤ℤ pos (group_cost n (group_by_number n g))

-- the list adds up and every arc's users pay at least the arc's bound
pub record CoreByBound (n : Network) (shares : List ℤ) : Type 0 where
  pub adds_up : AddsUp n shares
  pub users_enough : (k : ℕ) → IsArc n k → bound n k ≤ℤ pays n shares (users n k)

-- the list adds up and every arc's users pay at least its need
pub record CoreByNeed (n : Network) (shares : List ℤ) : Type 0 where
  pub adds_up : AddsUp n shares
  pub users_enough : (k : ℕ) → IsArc n k → pos (need n k) ≤ℤ pays n shares (users n k)
