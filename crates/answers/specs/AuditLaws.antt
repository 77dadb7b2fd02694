-- What is proved of the two answers of the audit on every accepted tree and proposal. A group is any set of member
-- numbers.
use Rattle.std.specs.Prelude.{ℕ, ◌≤◌, ◌<◌, ◌≡◌, Bool, true, false, ◌↔◌, List, ℤ, pos, ◌≤ℤ◌}
use Rattle.game.specs.Network.{member_count, whole_cost}
use Rattle.game.specs.Tree.{Tree, network}
use Rattle.basics.specs.Bit.{bit}
use Rattle.basics.specs.Sum.{size}
use Rattle.game.specs.Proposal.{pays, overpayment, difference}
use Rattle.answer_forms.specs.Answer.{value, accepted}
use Rattle.answers.specs.Laws.{cost_of, PartOf}
use Rattle.answers.specs.Audit.{found, none, audit_check, total_answer, search_answer, search_words, Passes}

-- the group that the words name
abbrev pub the_group : Tree → List ℤ → ℕ → Bool
the_group t shares = bit (search_words t shares)

pub record GroupLaws (t : Tree) (shares : List ℤ) (amount members : ℕ) : Type 0 where
  -- the named group overpays exactly the amount, which is above 0, and has as many members as the answer says
  pub overpays : overpayment (network t) shares (the_group t shares) ≡ pos amount
  pub above_zero : 0 < amount
  pub counted : size (member_count (network t)) (the_group t shares) ≡ members
  -- no group overpays more
  pub none_more : (g : ℕ → Bool) → overpayment (network t) shares g ≤ℤ pos amount
  -- every group that overpays as much has every member of the named one
  pub part_of_all : (g : ℕ → Bool) → overpayment (network t) shares g ≡ pos amount → PartOf (the_group t shares) g
  -- it has at least as many members, and where it has no more it is the named one, member by member
  pub fewest : (g : ℕ → Bool)
      → overpayment (network t) shares g ≡ pos amount
      → members ≤ size (member_count (network t)) g
  pub only_one : (g : ℕ → Bool)
      → overpayment (network t) shares g ≡ pos amount
      → size (member_count (network t)) g ≤ members
      → (j : ℕ) → j < member_count (network t) → g j ≡ the_group t shares j
  -- the words name no number at or beyond the number of members
  pub none_beyond : (j : ℕ) → member_count (network t) ≤ j → the_group t shares j ≡ false

pub record AuditLaws (t : Tree) (shares : List ℤ) : Type 0 where
  -- the total check answers the difference
  pub total : total_answer t shares ≡ value (difference (network t) shares)
  -- it is what all members together overpay, so one above 0 always comes with a group
  pub all_overpay : overpayment (network t) shares (λ j. true) ≡ difference (network t) shares
  -- no group is found, exactly when no group's overpayment is above 0
  pub finds_none : (search_answer t shares ≡ value none) ↔ ((g : ℕ → Bool) → overpayment (network t) shares g ≤ℤ pos 0)
  -- a group is found, exactly when some group's overpayment is above 0
  pub finds_exactly : ((amount : ℕ) × (members : ℕ) × (search_answer t shares ≡ value (found amount members)))
      ↔ ((g : ℕ → Bool) × (overpayment (network t) shares g ≤ℤ pos 0 → ⊥))
  pub finds : (amount members : ℕ) → search_answer t shares ≡ value (found amount members)
      → GroupLaws t shares amount members
  -- the difference is 0 and no group is found, exactly when the proposal adds up to the whole cost and no group pays
  -- more than its own network costs
  pub passes : Passes t shares
      ↔ ((pays (network t) shares (λ j. true) ≡ pos (whole_cost (network t)))
      × ((g : ℕ → Bool) → pays (network t) shares g ≤ℤ pos (cost_of t g)))

abbrev pub AuditStatement : Type 0
AuditStatement = (t : Tree) (shares : List ℤ) → audit_check t shares ≡ accepted → AuditLaws t shares
