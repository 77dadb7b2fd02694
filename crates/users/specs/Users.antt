-- A list of an arc's users, and the members laid out so that each arc's users stand side by side.
use Rattle.std.specs.Prelude.{ℕ, ◌+◌, ◌≤◌, ◌<◌, ◌≡◌, List, length, get_or, take, drop}
use Rattle.basics.specs.Sum.{pick, sum₀, total}
use Rattle.game.specs.Network.{Network, member_count, members}
use Rattle.game.specs.Tree.{of_arc}
use Rattle.game.specs.Core.{users}
use Rattle.users.specs.Layout.{slot}

-- the list has the number of each user of arc k once, in any order: a sum over it is the sum over the users
pub record Lists (n : Network) (k : ℕ) (us : List ℕ) : Type 0 where
  pub sums : (g : ℕ → ℕ) → total g us ≡ sum₀ (member_count n) (λ j. pick (users n k j) (g j))

-- `order` has each member's number at its place, the others one entry an arc; the users of arc k are the `counts`
-- entry of k many numbers in `order` from the `starts` entry of k on
pub record LaidOut (n : Network) (starts counts order : List ℕ) : Type 0 where
  pub starts_sized : length starts ≡ n.arcs
  pub counts_sized : length counts ≡ n.arcs
  pub order_sized : length order ≡ member_count n
  pub everyone : (g : ℕ → ℕ) → total g order ≡ sum₀ (member_count n) g
  pub place_within : (j : ℕ) → j < member_count n → slot (members n) starts j < length order
  pub placed : (j : ℕ) → j < member_count n → get_or order (slot (members n) starts j) 0 ≡ j
  pub within : (k : ℕ) → 1 ≤ k → k ≤ n.arcs → of_arc starts k + of_arc counts k ≤ length order
  pub lists : (k : ℕ) → 1 ≤ k → k ≤ n.arcs → Lists n k (take (of_arc counts k) (drop (of_arc starts k) order))
