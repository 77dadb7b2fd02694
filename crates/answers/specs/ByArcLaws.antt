-- Demand 2 of the by-arc split, about its own lists; and that units left over are given in turn.
use Rattle.std.specs.Prelude.{ℕ, ◌*◌, ◌/◌, ◌<◌, ◌≡◌, Bool, true, ◌&&◌, List, map, length, get_or, pos, ltb}
use Rattle.basics.specs.Sum.{pick, sum, count, size}
use Rattle.game.specs.Network.{Network, member_count, used, everyone}
use Rattle.game.specs.Tree.{Tree, network}
use Rattle.game.specs.Core.{users, Core}
use Rattle.game.specs.ByArc.{user_count, equal_part, leftover, ahead, tallies_at, gift}
use Rattle.game.specs.Shapley.{factorial, shapley, path_length, Even, Within}
use Rattle.answer_forms.specs.Answer.{accepted}
use Rattle.answers.specs.Laws.{ArcOf}
use Rattle.answers.specs.Members.{members_check}
use Rattle.answers.specs.Audit.{Passes}
use Rattle.answers.specs.ByArc.{by_arc_list}

-- n!, where n is the number of members
abbrev pub members_factorial : Tree → ℕ
members_factorial t = factorial (member_count (network t))

-- member j uses arc k, and gets more of it than the equal part
abbrev pub gets_more : Network → ℕ → ℕ → Bool
gets_more n k j = users n k j && ltb (equal_part n k) (gift n k j)

-- of arc k, which has users
pub record InTurn (n : Network) (k : ℕ) : Type 0 where
  -- exactly as many users get one unit more as are left over
  pub as_many : size (member_count n) (gets_more n k) ≡ leftover n k
  -- of two users, the one with the smaller tally, or the same and the lower number, is served first
  pub first : (i j : ℕ) → i < member_count n → j < member_count n → users n k i ≡ true
      → ahead (tallies_at n k) i j ≡ true → gets_more n k j ≡ true → gets_more n k i ≡ true
  -- a member's tally is the number of arcs handled so far, those above k, that gave it one unit more
  pub tally : (j : ℕ) → j < member_count n
      → get_or (tallies_at n k) j 0 ≡ count n.arcs (λ e. ltb k e && gets_more n e j)

-- of a tree and the by-arc shares of its members
pub record ByArcLaws (t : Tree) (shares : List ℕ) : Type 0 where
  pub one_a_member : length shares ≡ member_count (network t)
  -- a share is the sum of what the arcs give the member
  pub from_arcs : (j : ℕ) → j < member_count (network t)
      → get_or shares j 0 ≡ sum (network t).arcs (λ k. gift (network t) k j)
  -- each arc gives its cost to its users, each the equal part or one unit more
  pub even : (k : ℕ) → ArcOf t k → Even (network t) k (gift (network t) k)
  pub in_turn : (k : ℕ) → ArcOf t k → used (network t) everyone k ≡ true → InTurn (network t) k
  -- the shares add up to the whole cost, and no group pays more than its own network costs
  pub in_core : Core (network t) (map pos shares)
  -- so the split passes the audit
  pub passes : Passes t (map pos shares)
  -- n! times a share is less than n! times its path's number of arcs away from n! times the Shapley value
  pub near : (j : ℕ) → j < member_count (network t)
      → Within (members_factorial t * path_length (network t) j) (members_factorial t * get_or shares j 0)
      (shapley (network t) j)
  -- Theorem 1 of the paper: the Shapley value divides each arc's cost equally among its users
  pub theorem_1 : (j : ℕ) → j < member_count (network t)
      → shapley (network t) j
      ≡ sum (network t).arcs
      (λ k. pick (users (network t) k j) ((network t).cost k * (members_factorial t / user_count (network t) k)))
  -- n! divided by the number of an arc's users is whole, where it has some
  pub whole_part : (k : ℕ) → ArcOf t k → used (network t) everyone k ≡ true
      → user_count (network t) k * (members_factorial t / user_count (network t) k) ≡ members_factorial t

abbrev pub ByArcStatement : Type 0
ByArcStatement = (t : Tree) (out : List ℕ) → members_check t out ≡ accepted → ByArcLaws t (by_arc_list t out)
