-- The level split's lists on two trees that differ in costs alone, under the same caps and floors, where the second tree
-- is nowhere cheaper and both answers are splits.
use Rattle.std.specs.Prelude.{ℕ, ◌+◌, ◌-◌, ◌≤◌, ◌<◌, ◌≡◌, true, false, List, get_or}
use Rattle.basics.specs.Sum.{pick, sum₀}
use Rattle.game.specs.Network.{at_or_below, used, everyone, member_count, need, whole_cost}
use Rattle.game.specs.Tree.{Tree, network, of_arc}
use Rattle.game.specs.Core.{users}
use Rattle.answers.specs.Laws.{ArcOf}
use Rattle.answers.specs.Level.{split, level_answer, level_list}

-- a member's rise from one list of shares to another; 0 where the share falls
abbrev pub rise : List ℕ → List ℕ → ℕ → ℕ
rise shares shares' j = get_or shares' j 0 - get_or shares j 0

-- both trees are split
pub record BothSplit (t t' : Tree) (caps floors out out' : List ℕ) : Type 0 where
  pub first : level_answer t caps floors out ≡ split (member_count (network t))
  pub second : level_answer t' caps floors out' ≡ split (member_count (network t'))

-- the second tree has the parents and marks of the first, and no arc with users costs less
pub record NoCheaper (t t' : Tree) : Type 0 where
  pub same_parents : t'.parents ≡ t.parents
  pub same_marks : t'.marks ≡ t.marks
  pub no_less : (k : ℕ) → ArcOf t k → used (network t) everyone k ≡ true → of_arc t.costs k ≤ of_arc t'.costs k

pub record RiseLaws (t t' : Tree) (shares shares' : List ℕ) : Type 0 where
  pub same_members : member_count (network t') ≡ member_count (network t)
  -- no share falls
  pub none_falls : (j : ℕ) → j < member_count (network t) → get_or shares j 0 ≤ get_or shares' j 0
  -- the rises add up to what the whole cost rises by
  pub together : whole_cost (network t) + sum₀ (member_count (network t)) (rise shares shares')
      ≡ whole_cost (network t')
  -- those of the users of an arc from the source add up to what its need rises by
  pub in_branch : (b : ℕ) → ArcOf t b → of_arc t.parents b ≡ 0
      → need (network t) b
      + sum₀ (member_count (network t)) (λ j. pick (users (network t) b j) (rise shares shares' j))
      ≡ need (network t') b
  -- so none rises by more than that
  pub at_most : (b j : ℕ) → ArcOf t b → of_arc t.parents b ≡ 0 → j < member_count (network t)
      → users (network t) b j ≡ true → need (network t) b + rise shares shares' j ≤ need (network t') b

abbrev pub RiseStatement : Type 0
RiseStatement = (t t' : Tree) (caps floors out out' : List ℕ) → BothSplit t t' caps floors out out'
    → NoCheaper t t' → RiseLaws t t' (level_list t caps floors out) (level_list t' caps floors out')

-- the second tree is the first with arc a, which has users, dearer by d
pub record Dearer (t t' : Tree) (a d : ℕ) : Type 0 where
  pub same_parents : t'.parents ≡ t.parents
  pub same_marks : t'.marks ≡ t.marks
  pub is_arc : ArcOf t a
  pub has_users : used (network t) everyone a ≡ true
  pub dearer : of_arc t'.costs a ≡ of_arc t.costs a + d
  pub same_costs : (k : ℕ) → ArcOf t k → (k ≡ a → ⊥) → of_arc t'.costs k ≡ of_arc t.costs k

-- an arc from the source at or above arc a
pub record SourceArc (t : Tree) (a : ℕ) : Type 0 where
  pub arc : ℕ
  pub is_arc : ArcOf t arc
  pub from_source : of_arc t.parents arc ≡ 0
  pub above : at_or_below (network t) arc a ≡ true

pub record DearerLaws (t t' : Tree) (a d : ℕ) (shares shares' : List ℕ) : Type 0 where
  pub same_members : member_count (network t') ≡ member_count (network t)
  -- no share falls, and none rises by more than d
  pub none_falls : (j : ℕ) → j < member_count (network t) → get_or shares j 0 ≤ get_or shares' j 0
  pub at_most : (j : ℕ) → j < member_count (network t) → get_or shares' j 0 ≤ get_or shares j 0 + d
  -- the rises add up to d
  pub together : sum₀ (member_count (network t)) (rise shares shares') ≡ d
  -- the branch of arc a: a member that does not use its arc from the source has the same share
  pub branch : SourceArc t a
  pub others_same : (b : SourceArc t a) (j : ℕ) → j < member_count (network t) → users (network t) b.arc j ≡ false
      → get_or shares' j 0 ≡ get_or shares j 0

abbrev pub DearerStatement : Type 0
DearerStatement = (t t' : Tree) (caps floors out out' : List ℕ) (a d : ℕ) → BothSplit t t' caps floors out out'
    → Dearer t t' a d → DearerLaws t t' a d (level_list t caps floors out) (level_list t' caps floors out')
