-- What is proved of events.
use Rattle.std.specs.Prelude.{ℕ, ◌+◌, ◌-◌, ◌≡◌, List, [], ◌∷◌}
use Rattle.game.specs.Network.{member_count}
use Rattle.game.specs.Tree.{Tree, network}
use Rattle.answer_forms.specs.Answer.{accepted}
use Rattle.answers.specs.Checks.{tree_check}
use Rattle.answers.specs.Laws.{ArcOf}
use Rattle.answers.specs.States.{State, tree_in}
use Rattle.answers.specs.Events.{Change, arrive, leave, new_cost, Event, reached, fit_check, outcome_check}
use Rattle.answers.specs.Events.{apply_check}

-- the number of members after a change
abbrev pub members_after : ℕ → Change → ℕ
members_after members arrive = members + 1
members_after members leave = members - 1
members_after members (new_cost amount) = members

-- the event's vertex is one of the tree's, and its mark is not the one that the event would set
pub record OutcomeLaws (t : Tree) (e : Event) : Type 0 where
  pub vertex : ArcOf t e.vertex
  -- the tree reached is refused where its outcome is, by the same number and place
  pub check : tree_check (reached t e) ≡ outcome_check (reached t e) e.vertex
  pub members : member_count (network (reached t e)) ≡ members_after (member_count (network t)) e.change

abbrev pub OutcomeStatement : Type 0
OutcomeStatement = (t : Tree) (e : Event) → tree_check t ≡ accepted → fit_check t e ≡ accepted → OutcomeLaws t e

-- an event that is not refused reaches an accepted tree
abbrev pub ReachedStatement : Type 0
ReachedStatement = (s : State) (e : Event) → apply_check s e ≡ accepted → tree_check (reached (tree_in s) e) ≡ accepted

-- the tree that a list of events reaches, one after another
unfoldable pub tree_after : Tree → List Event → Tree
tree_after t [] = t
tree_after t (e ∷ rest) = tree_after (reached t e) rest
