-- Quotes: asking for an event, and committing what was quoted.
use Rattle.std.specs.Prelude.{ℕ, suc, not, List, [], eqb, leb}
use Rattle.limits.specs.Limits.{most_events}
use Rattle.game.specs.Network.{member_count}
use Rattle.game.specs.Tree.{network}
use Rattle.game.specs.ByArc.{by_arc}
use Rattle.answer_forms.specs.Answer.{Check, Answer, fault, ◌then◌, answer, written}
use Rattle.answers.specs.States.{State, padded, made_state, tree_in}
use Rattle.answers.specs.Events.{Event, reached, apply_check}

-- an event, and the number of events committed where it was asked for
pub record Quote : Type 0 where
  pub event : Event
  pub committed : ℕ

abbrev pub quote_at : Event → ℕ → Quote
quote_at e n = record { event = e; committed = n }

-- the quote that asking for an event on a state gives
abbrev pub quote_on : State → Event → Quote
quote_on s e = quote_at e s.committed

-- the number of members after the event, and the quote
pub record QuoteValue : Type 0 where
  pub members : ℕ
  pub quote : Quote

unfoldable pub ask_answer : State → Event → Answer QuoteValue
ask_answer s e =
    answer (apply_check s e)
    (record { members = member_count (network (reached (tree_in s) e)); quote = quote_on s e })

-- the by-arc shares of the tree that the event reaches, as a state holds them
unfoldable pub asked_shares : State → Event → List ℕ
asked_shares s e = written (apply_check s e) (padded []) (padded (by_arc (network (reached (tree_in s) e))))

-- 24 where the number n of events committed is 1,000,000 or more
abbrev pub limit_check : (n : ℕ) → Check
limit_check n = fault (leb most_events n) 24 0

-- 23 where the quote's number is not that of the events committed, then 24
abbrev pub number_check : (quoted committed : ℕ) → Check
number_check quoted committed = fault (not (eqb quoted committed)) 23 0 then limit_check committed

unfoldable pub commit_check : State → Quote → Check
commit_check s q = number_check q.committed s.committed then apply_check s q.event

-- the number of members after the event
unfoldable pub commit_answer : State → Quote → Answer ℕ
commit_answer s q = answer (commit_check s q) (member_count (network (reached (tree_in s) q.event)))

-- the state made of the tree that the event reaches, with one more event committed
unfoldable pub committed_state : State → Quote → State
committed_state s q =
    written (commit_check s q) s (made_state (reached (tree_in s) q.event) (suc s.committed))
