-- The Shapley value, times n! so that it is whole, by its definition over all groups; and what a division of each
-- arc's cost keeps to.
use Rattle.std.specs.Prelude.{ℕ, zero, suc, ◌+◌, ◌*◌, ◌-◌, ◌/◌, ◌≤◌, ◌<◌, ◌≡◌, Bool, true, false, not, ◌||◌, List, [], ◌∷◌, eqb}
use Rattle.basics.specs.Sum.{pick, count, sum₀, size}
use Rattle.game.specs.Network.{Network, group_cost, member_count}
use Rattle.game.specs.Group.{group_by_number}
use Rattle.game.specs.Search.{groups, is_in}
use Rattle.game.specs.Core.{users}
use Rattle.game.specs.ByArc.{user_count}

-- 1 · 2 · .. · n
unfoldable pub factorial : ℕ → ℕ
factorial zero = 1
factorial (suc n) = suc n * factorial n

-- the sum of f over the groups of a list
unfoldable pub over_all : (List Bool → ℕ) → List (List Bool) → ℕ
over_all f [] = 0
over_all f (g ∷ rest) = f g + over_all f rest

-- what member i adds to the cost of a group of member numbers; a larger group never costs less
abbrev pub adds : Network → ℕ → (ℕ → Bool) → ℕ
adds n i g = group_cost n (group_by_number n (λ j. g j || eqb j i)) - group_cost n (group_by_number n g)

-- |S|! · (n − |S| − 1)! for a group S of n members
abbrev pub weight : ℕ → (ℕ → Bool) → ℕ
weight n g = factorial (size n g) * factorial (n - size n g - 1)

-- n! times member i's Shapley value: over all groups without i, the weight times what i adds
unfoldable pub shapley : Network → ℕ → ℕ
shapley n i =
    over_all (λ g. pick (not (is_in g i)) (weight (member_count n) (is_in g) * adds n i (is_in g)))
    (groups (member_count n))

-- the number of arcs on the path from the source to member j
abbrev pub path_length : Network → ℕ → ℕ
path_length n j = count n.arcs (λ k. users n k j)

-- arc k's gifts g: nobody but its users gets anything, each user gets the cost div their number or one unit more, and
-- together they get the cost
pub record Even (n : Network) (k : ℕ) (g : ℕ → ℕ) : Type 0 where
  pub others : (j : ℕ) → users n k j ≡ false → g j ≡ 0
  pub least : (j : ℕ) → users n k j ≡ true → n.cost k / user_count n k ≤ g j
  pub most : (j : ℕ) → users n k j ≡ true → g j ≤ n.cost k / user_count n k + 1
  pub all : sum₀ (member_count n) g ≡ n.cost k

-- a and b differ by less than d
pub record Within (d a b : ℕ) : Type 0 where
  pub above : a < b + d
  pub below : b < a + d
