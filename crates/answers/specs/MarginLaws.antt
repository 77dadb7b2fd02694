-- What is proved of the widest margin in a branch, about the entry's own answers and lists. A list of whole shares has
-- one whole number a user, of any size and either sign; a group is any set of the branch's member numbers.
use Rattle.std.specs.Prelude.{ℕ, ◌<◌, ◌≡◌, Bool, true, cond, ◌&&◌, List, map, length, get_or, replicate, ℤ, pos, ◌≤ℤ◌, eqb, ltb}
use Rattle.basics.specs.Sum.{pick, sum, entries}
use Rattle.game.specs.Network.{at_or_below, user, need, number, members, member_count}
use Rattle.game.specs.Tree.{Tree, network}
use Rattle.game.specs.Proposal.{pays}
use Rattle.game.specs.Core.{Core, users}
use Rattle.game.specs.ByArc.{user_count}
use Rattle.game.specs.Margin.{group_margin, Proper, raised}
use Rattle.answer_forms.specs.Answer.{accepted, value}
use Rattle.answers.specs.Checks.{tree_check}
use Rattle.answers.specs.Laws.{ArcOf}
use Rattle.answers.specs.Margin.{leaves_source, branch_at, margin_check, margin_answer, margin_list}

-- the branch of an arc as a network
pub record BranchLaws (t : Tree) (arc : ℕ) : Type 0 where
  -- its members are the arc's users
  pub members_are : (v : ℕ) → (branch_at t arc).member v ≡ user (network t) arc v
  pub as_many : member_count (branch_at t arc) ≡ user_count (network t) arc
  -- an arc at or below the arc costs and needs what it does in the tree, and any other costs nothing
  pub costs_are : (e : ℕ) → ArcOf t e
      → (branch_at t arc).cost e ≡ pick (at_or_below (network t) arc e) ((network t).cost e)
  pub needs_are : (e : ℕ) → ArcOf t e → at_or_below (network t) arc e ≡ true
      → need (branch_at t arc) e ≡ need (network t) e

abbrev pub BranchStatement : Type 0
BranchStatement =
    (t : Tree) (arc : ℕ) → tree_check t ≡ accepted → leaves_source t.parents arc ≡ true → BranchLaws t arc

-- the list has one share a user, and they add up to the need of the arc
pub record SplitOf (t : Tree) (arc : ℕ) (shares : List ℤ) : Type 0 where
  pub one_a_user : length shares ≡ user_count (network t) arc
  pub adds_up : pays (branch_at t arc) shares (λ j. true) ≡ pos (need (network t) arc)

-- some proper nonempty group has at most this margin
pub record Narrow (t : Tree) (arc : ℕ) (shares : List ℤ) (margin : ℕ) : Type 0 where
  pub group : ℕ → Bool
  pub proper : Proper (branch_at t arc) group
  pub at_most : group_margin (branch_at t arc) shares group ≤ℤ pos margin

pub record MarginLaws (t : Tree) (arc : ℕ) (out : List ℕ) : Type 0 where
  -- the margin answered, beside the number of the arc's users
  pub margin : ℕ
  pub answered : margin_answer t arc out ≡ value (record { margin = margin; users = user_count (network t) arc })
  -- the list written is a split of the arc's need
  pub is_split : SplitOf t arc (map pos (margin_list t arc out))
  -- every proper nonempty group of the users has at least that margin
  pub all_have : (g : ℕ → Bool) → Proper (branch_at t arc) g
      → pos margin ≤ℤ group_margin (branch_at t arc) (map pos (margin_list t arc out)) g
  -- in every other split one has at most that margin, so no greater margin is possible
  pub none_wider : (others : List ℤ) → SplitOf t arc others → Narrow t arc others margin
  -- it is the greatest at which the raised need of the arc is its need
  pub possible : raised (branch_at t arc) margin arc ≡ need (network t) arc
  pub greatest : (d : ℕ) → margin < d → need (network t) arc < raised (branch_at t arc) d arc

abbrev pub MarginStatement : Type 0
MarginStatement = (t : Tree) (arc : ℕ) (out : List ℕ) → margin_check t arc out ≡ accepted → MarginLaws t arc out

-- the shares of an arc from the source: the entry's where it has two users or more; a single user pays the need
unfoldable pub branch_shares : Tree → ℕ → List ℕ
branch_shares t arc =
    let n = user_count (network t) arc in
    cond (ltb n 2) (replicate n (need (network t) arc)) (margin_list t arc (replicate n 0))

-- the branches' splits together: member j has its share in the branch of the one arc from the source that it uses
unfoldable pub together : Tree → List ℕ
together t =
    let n = network t in
    entries (member_count n)
    (λ j.
    sum n.arcs
    (λ b.
    pick (eqb (n.parent b) 0 && users n b j)
    (get_or (branch_shares t b) (number (branch_at t b) (get_or (members n) j 0)) 0)))

abbrev pub TogetherStatement : Type 0
TogetherStatement = (t : Tree) → tree_check t ≡ accepted → Core (network t) (map pos (together t))
