-- The limits of every accepted tree, caps list and proposal.
use Rattle.std.specs.Prelude.{ℕ, ◌<◌, ◌≤◌, ◌≡◌, List, length, get_or, ℤ, pos, nat_abs}
use Rattle.limits.specs.Limits.{most_arcs, most_cost, most_share}
use Rattle.game.specs.Network.{member_count}
use Rattle.game.specs.Tree.{Tree, network, of_arc}
use Rattle.answer_forms.specs.Answer.{accepted}
use Rattle.answers.specs.Checks.{tree_check, proposal_check}
use Rattle.answers.specs.Level.{caps_check}

pub record Limits (t : Tree) : Type 0 where
  -- there are at most 1,023 arcs, and at most as many members, and at least one
  pub arcs : length t.parents ≤ most_arcs
  pub someone : 0 < member_count (network t)
  pub members : member_count (network t) ≤ most_arcs
  -- there is one cost and one mark an arc, and no parent and no cost is above its limit
  pub costs : length t.costs ≡ length t.parents
  pub marks : length t.marks ≡ length t.parents
  pub parent : (k : ℕ) → of_arc t.parents k < most_arcs
  pub cost : (k : ℕ) → of_arc t.costs k ≤ most_cost

abbrev pub TreeLimits : Type 0
TreeLimits = (t : Tree) → tree_check t ≡ accepted → Limits t

-- there is one cap, and one proposed share, a member, and none is above its limit
abbrev pub CapLimits : Type 0
CapLimits = (members : ℕ) (caps : List ℕ) → caps_check members caps ≡ accepted
    → (length caps ≡ members) × ((j : ℕ) → get_or caps j 0 ≤ most_share)

abbrev pub ProposalLimits : Type 0
ProposalLimits = (members : ℕ) (proposal : List ℤ) → proposal_check members proposal ≡ accepted
    → (length proposal ≡ members) × ((j : ℕ) → nat_abs (get_or proposal j (pos 0)) ≤ most_share)
