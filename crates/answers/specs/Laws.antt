-- What is proved of the tree cost game on every accepted tree. A group is any set of member numbers.
use Rattle.std.specs.Prelude.{ℕ, ◌+◌, ◌≤◌, ◌≡◌, Bool, true, false, not, ◌&&◌, length, get_or, eqb}
use Rattle.basics.specs.Sum.{pick, sum, count}
use Rattle.game.specs.Network.{user, used, group_cost, everyone, need, whole_cost, number, members}
use Rattle.game.specs.Tree.{Tree, network, of_arc, marked, dead_ends, counted_costs}
use Rattle.game.specs.Group.{group_by_number}
use Rattle.answer_forms.specs.Answer.{accepted}
use Rattle.answers.specs.Checks.{tree_check}

-- k is the number of an arc, and of the vertex that it enters
pub record ArcOf (t : Tree) (k : ℕ) : Type 0 where
  pub first : 1 ≤ k
  pub last : k ≤ length t.parents

-- the cost of a group of member numbers
abbrev pub cost_of : Tree → (ℕ → Bool) → ℕ
cost_of t g = group_cost (network t) (group_by_number (network t) g)

-- the group without member i
abbrev pub without : ℕ → (ℕ → Bool) → ℕ → Bool
without i g j = g j && not (eqb j i)

-- every member of g is one of h
abbrev pub PartOf : (ℕ → Bool) → (ℕ → Bool) → Type 0
PartOf g h = (j : ℕ) → g j ≡ true → h j ≡ true

pub record GameLaws (t : Tree) : Type 0 where
  -- entry j of the members' list is the vertex of member j
  pub member_at : (v : ℕ) → ArcOf t v → marked t.marks v ≡ true
      → get_or (members (network t)) (number (network t) v) 0 ≡ v
  -- an arc's need is its counted cost plus the needs of its child arcs
  pub need_of_children : (k : ℕ) → ArcOf t k
      → need (network t) k
      ≡ of_arc (counted_costs t) k
      + sum (length t.parents) (λ u. pick (eqb (of_arc t.parents u) k) (need (network t) u))
  -- the only user of a member's arc is that member
  pub users_of_member : (k v : ℕ) → ArcOf t k → ArcOf t v → marked t.marks k ≡ true
      → user (network t) k v ≡ eqb k v
  -- a user of any other arc is a user of one of its child arcs, and of one only
  pub users_of_children : (k v : ℕ) → ArcOf t k → ArcOf t v → marked t.marks k ≡ false
      → pick (user (network t) k v) 1
      ≡ count (length t.parents) (λ u. eqb (of_arc t.parents u) k && user (network t) u v)
  -- where the marks are the dead ends every arc has a user, and the counted costs are the costs as they are handed in
  pub every_arc_used : t.marks ≡ dead_ends t.parents → (k : ℕ) → ArcOf t k → used (network t) everyone k ≡ true
  pub counted_as_given : t.marks ≡ dead_ends t.parents → counted_costs t ≡ t.costs
  -- the group of all costs the whole cost, the empty group 0
  pub all_cost_whole : cost_of t (λ j. true) ≡ whole_cost (network t)
  pub none_cost_nothing : cost_of t (λ j. false) ≡ 0
  -- a larger group never costs less
  pub larger_costs_no_less : (g h : ℕ → Bool) → PartOf g h → cost_of t g ≤ cost_of t h
  -- inequality (2) of the paper, with the two costs that it takes away added on the other side:
  -- what member i adds to a group is at least what it adds to a larger one
  pub submodular : (i : ℕ) (g h : ℕ → Bool) → g i ≡ true → PartOf g h
      → cost_of t h + cost_of t (without i g) ≤ cost_of t g + cost_of t (without i h)

abbrev pub Laws : Type 0
Laws = (t : Tree) → tree_check t ≡ accepted → GameLaws t
