-- Arcs that nobody uses: nobody pays for them.
use Rattle.std.specs.Prelude.{ℕ, ◌≡◌, true, false, List, ℤ}
use Rattle.game.specs.Network.{used, everyone, need}
use Rattle.game.specs.Tree.{Tree, of_arc, network}
use Rattle.game.specs.ByArc.{gift}
use Rattle.game.specs.Inward.{amount_of}
use Rattle.game.specs.Floors.{adjusted}
use Rattle.game.specs.Level.{units}
use Rattle.answer_forms.specs.Answer.{accepted}
use Rattle.answers.specs.Checks.{tree_check}
use Rattle.answers.specs.Laws.{ArcOf}
use Rattle.answers.specs.Members.{member_count_answer, members_answer, members_list}
use Rattle.answers.specs.Needs.{needs_answer, needs_list}
use Rattle.answers.specs.GroupCost.{group_cost_answer}
use Rattle.answers.specs.Audit.{total_answer, search_answer, search_words}
use Rattle.answers.specs.Level.{level_answer, level_list}
use Rattle.answers.specs.CapSums.{cap_sums_answer, cap_sums_list}
use Rattle.answers.specs.ByArc.{by_arc_answer, by_arc_list}
use Rattle.answers.specs.Margin.{margin_answer, margin_list}
use Rattle.answers.specs.States.{made_state}

-- arc k has need 0, adjusted need 0, and gives nothing to anyone in either split
pub record UnusedLaws (t : Tree) (k : ℕ) : Type 0 where
  pub no_need : need (network t) k ≡ 0
  pub no_adjusted : (floors : List ℕ) → adjusted (network t) floors k ≡ 0
  pub no_gift : (j : ℕ) → gift (network t) k j ≡ 0
  pub no_unit : (caps floors shares : List ℕ)
      → units (network t) caps k (amount_of (network t) (adjusted (network t) floors) k) shares ≡ shares

abbrev pub UnusedStatement : Type 0
UnusedStatement = (t : Tree) → tree_check t ≡ accepted → (k : ℕ) → ArcOf t k → used (network t) everyone k ≡ false
    → UnusedLaws t k

-- the trees differ only in costs of arcs that nobody uses
pub record DifferUnused (s t : Tree) : Type 0 where
  pub same_parents : s.parents ≡ t.parents
  pub same_marks : s.marks ≡ t.marks
  pub same_used : (k : ℕ) → ArcOf s k → used (network s) everyone k ≡ true → of_arc s.costs k ≡ of_arc t.costs k

-- every entry that takes a tree with marks answers the same, and leaves the same lists
pub record SameAnswers (s t : Tree) : Type 0 where
  pub check : tree_check s ≡ tree_check t
  pub count : member_count_answer s ≡ member_count_answer t
  pub members : (out : List ℕ) → members_answer s out ≡ members_answer t out
  pub members_list_same : (out : List ℕ) → members_list s out ≡ members_list t out
  pub needs : (out : List ℕ) → needs_answer s out ≡ needs_answer t out
  pub needs_list_same : (out : List ℕ) → needs_list s out ≡ needs_list t out
  pub group_cost_same : (words : List ℕ) → group_cost_answer s words ≡ group_cost_answer t words
  pub total : (shares : List ℤ) → total_answer s shares ≡ total_answer t shares
  pub search : (shares : List ℤ) → search_answer s shares ≡ search_answer t shares
  pub search_words_same : (shares : List ℤ) → search_words s shares ≡ search_words t shares
  pub level : (caps floors out : List ℕ) → level_answer s caps floors out ≡ level_answer t caps floors out
  pub level_list_same : (caps floors out : List ℕ) → level_list s caps floors out ≡ level_list t caps floors out
  pub cap_sums : (caps out : List ℕ) → cap_sums_answer s caps out ≡ cap_sums_answer t caps out
  pub cap_sums_list_same : (caps out : List ℕ) → cap_sums_list s caps out ≡ cap_sums_list t caps out
  pub by_arc_same : (out : List ℕ) → by_arc_answer s out ≡ by_arc_answer t out
  pub by_arc_list_same : (out : List ℕ) → by_arc_list s out ≡ by_arc_list t out
  pub margin : (arc : ℕ) (out : List ℕ) → margin_answer s arc out ≡ margin_answer t arc out
  pub margin_list_same : (arc : ℕ) (out : List ℕ) → margin_list s arc out ≡ margin_list t arc out
  -- a state holds the costs as they are handed in, but the same shares
  pub shares : (n : ℕ) → (made_state s n).shares ≡ (made_state t n).shares

-- nobody pays for a stub
abbrev pub StubStatement : Type 0
StubStatement = (s t : Tree) → tree_check s ≡ accepted → tree_check t ≡ accepted → DifferUnused s t → SameAnswers s t
