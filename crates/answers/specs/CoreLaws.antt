-- What is proved of the core and of the bounds on every accepted tree, for every list of whole shares, of any size
-- and either sign.
use Rattle.std.specs.Prelude.{ℕ, ◌+◌, ◌<◌, ◌≡◌, true, false, ◌⊎◌, ◌↔◌, List, ℤ, pos, ◌≤ℤ◌}
use Rattle.game.specs.Network.{at_or_below, user, need, member_count}
use Rattle.game.specs.Tree.{Tree, network, of_arc}
use Rattle.game.specs.Proposal.{share}
use Rattle.game.specs.Core.{bound, only_theirs, Core, CoreByBound, CoreByNeed}
use Rattle.answer_forms.specs.Answer.{accepted}
use Rattle.answers.specs.Checks.{tree_check}
use Rattle.answers.specs.Laws.{ArcOf}

-- a user of the parent's arc that does not use arc k
pub record OtherUser (t : Tree) (k : ℕ) : Type 0 where
  pub who : ℕ
  pub is_vertex : ArcOf t who
  pub uses_parent : user (network t) (of_arc t.parents k) who ≡ true
  pub not_below : at_or_below (network t) k who ≡ false

-- arc k is the top of an unbranched run: it leaves the source, or its parent has another user
abbrev pub RunTop : Tree → ℕ → Type 0
RunTop t k = (of_arc t.parents k ≡ 0) ⊎ OtherUser t k

-- arc k is lower in the run, with p for its parent: p is an arc, and every user of p uses k
pub record LowerInRun (t : Tree) (p k : ℕ) : Type 0 where
  pub is_arc : ArcOf t k
  pub parent : of_arc t.parents k ≡ p
  pub not_top : RunTop t k → ⊥

pub record CoreLaws (t : Tree) : Type 0 where
  -- the paper's bound is the sum of the costs of the arcs that only the arc's users use
  pub bound_is_only_theirs : (k : ℕ) → ArcOf t k → bound (network t) k ≡ pos (only_theirs (network t) k)
  -- the need is never above it, and equals it at the top of an unbranched run
  pub need_at_most_bound : (k : ℕ) → ArcOf t k → pos (need (network t) k) ≤ℤ bound (network t) k
  pub need_is_bound : (k : ℕ) → ArcOf t k → RunTop t k → pos (need (network t) k) ≡ bound (network t) k
  -- lower in the run the bound is the parent's, and the need is less than the parent's by the parent's counted cost
  pub run_same_bound : (p k : ℕ) → LowerInRun t p k → bound (network t) k ≡ bound (network t) p
  pub run_parent_need : (p k : ℕ) → LowerInRun t p k → need (network t) p ≡ (network t).cost p + need (network t) k
  -- so it equals the bound exactly where that cost is 0 and the parent's need is the parent's bound
  pub run_need_is_bound : (p k : ℕ) → LowerInRun t p k
      → (pos (need (network t) k) ≡ bound (network t) k)
      ↔ (((network t).cost p ≡ 0) × (pos (need (network t) p) ≡ bound (network t) p))
  -- Theorem 2 of the paper: the core over all groups is described by the bounds of the arcs
  pub core_by_bound : (shares : List ℤ) → Core (network t) shares ↔ CoreByBound (network t) shares
  -- and by their needs
  pub core_by_need : (shares : List ℤ) → Core (network t) shares ↔ CoreByNeed (network t) shares
  -- no list in the core has a negative share
  pub core_not_negative : (shares : List ℤ) → Core (network t) shares → (j : ℕ) → j < member_count (network t)
      → pos 0 ≤ℤ share shares j

abbrev pub CoreStatement : Type 0
CoreStatement = (t : Tree) → tree_check t ≡ accepted → CoreLaws t
