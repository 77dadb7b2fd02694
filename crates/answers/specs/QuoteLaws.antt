-- What is proved of states, askings and commits.
use Rattle.std.specs.Prelude.{ℕ, suc, ◌+◌, ◌<◌, ◌≤◌, ◌≡◌, ◌⊎◌, List, [], ◌∷◌, ◌++◌, map, length, take, replicate, pos}
use Rattle.limits.specs.Limits.{most_arcs, most_events}
use Rattle.game.specs.Network.{member_count}
use Rattle.game.specs.Tree.{Tree, network}
use Rattle.answer_forms.specs.Answer.{accepted, value, refusal, ◌then◌, answer, written}
use Rattle.answers.specs.Checks.{tree_check}
use Rattle.answers.specs.Members.{members_check}
use Rattle.answers.specs.Audit.{Passes}
use Rattle.answers.specs.ByArc.{by_arc_list}
use Rattle.answers.specs.States.{State, padded, made_state}
use Rattle.answers.specs.Events.{arrive, leave, Event, event_at, reached, event_check}
use Rattle.answers.specs.Quotes.{Quote, quote_at, QuoteValue, quote_on, ask_answer, asked_shares}
use Rattle.answers.specs.Quotes.{limit_check, number_check, commit_check, commit_answer, committed_state}
use Rattle.answers.specs.EventLaws.{tree_after}

-- a call on a state that its holder keeps
pub data Step : Type 0 where
  asking : (e : Event) → Step
  committing : (q : Quote) → Step

-- the state after a step; an asking gives none back
abbrev pub stepped : State → Step → State
stepped s (asking e) = s
stepped s (committing q) = committed_state s q

unfoldable pub state_after : State → List Step → State
state_after s [] = s
state_after s (x ∷ rest) = state_after (stepped s x) rest

-- the event that a step carries out, if any: that of a commit which is not refused
abbrev pub carried_by : State → Step → List Event
carried_by s (asking e) = []
carried_by s (committing q) = written (commit_check s q) [] (q.event ∷ [])

-- the events that a list of steps carries out
unfoldable pub carried_out : State → List Step → List Event
carried_out s [] = []
carried_out s (x ∷ rest) = carried_by s x ++ carried_out (stepped s x) rest

-- what an event that goes back to tree t meets on the state s, where n events are committed
pub record Returns (t : Tree) (n : ℕ) (s : State) (back : Event) : Type 0 where
  pub asked : ask_answer s back ≡ value (record { members = member_count (network t); quote = quote_on s back })
  pub answer : commit_answer s (quote_on s back) ≡ answer (limit_check n) (member_count (network t))
  pub state : committed_state s (quote_on s back) ≡ written (limit_check n) s (made_state t (suc n))

-- of a state s whose tree is t, with n events committed
pub record StateLaws (t : Tree) (n : ℕ) (s : State) : Type 0 where
  -- the tree is accepted, so every law of an accepted tree holds of it
  pub tree_accepted : tree_check t ≡ accepted
  -- the state is the one made of it
  pub made : s ≡ made_state t n
  -- its shares are those of the by-arc split, and pass the audit
  pub shares : (out : List ℕ) → members_check t out ≡ accepted → s.shares ≡ padded (by_arc_list t out)
  pub passes : Passes t (map pos (take (member_count (network t)) s.shares))
  -- an event is refused by its check on the tree, and is answered by the members of the tree that it reaches
  pub asks : (e : Event) → ask_answer s e
      ≡ answer (event_check t e)
      (record { members = member_count (network (reached t e)); quote = quote_at e n })
  -- what is quoted are the shares of the by-arc split there
  pub quotes : (e : Event) (out : List ℕ) → event_check t e ≡ accepted → members_check (reached t e) out ≡ accepted
      → asked_shares s e ≡ padded (by_arc_list (reached t e) out)
  pub commits : (q : Quote) → commit_answer s q
      ≡ answer (number_check q.committed n then event_check t q.event)
      (member_count (network (reached t q.event)))
  -- leave goes back where arrive was carried out, and arrive where leave was
  pub arrive_leave : (v : ℕ) → commit_check s (quote_on s (event_at v arrive)) ≡ accepted
      → Returns t (suc n) (committed_state s (quote_on s (event_at v arrive))) (event_at v leave)
  pub leave_arrive : (v : ℕ) → commit_check s (quote_on s (event_at v leave)) ≡ accepted
      → Returns t (suc n) (committed_state s (quote_on s (event_at v leave))) (event_at v arrive)

-- from the state made of an accepted tree: the state reached is that of the tree reached by the events carried out,
-- with as many more events committed
abbrev pub StepStatement : Type 0
StepStatement = (t : Tree) (n : ℕ) (steps : List Step) → tree_check t ≡ accepted
    → StateLaws (tree_after t (carried_out (made_state t n) steps)) (n + length (carried_out (made_state t n) steps))
    (state_after (made_state t n) steps)

-- a quote committed after askings and refused commits alone: it is refused 24, where so many events are committed, or
-- gives what was quoted
abbrev pub QuotedStatement : Type 0
QuotedStatement = (s : State) (e : Event) (quoted : QuoteValue) (steps : List Step)
    → ask_answer s e ≡ value quoted
    → carried_out s steps ≡ []
    → ((most_events ≤ s.committed) × (commit_answer (state_after s steps) quoted.quote ≡ refusal 24 0))
    ⊎ ((commit_answer (state_after s steps) quoted.quote ≡ value quoted.members)
    × ((committed_state (state_after s steps) quoted.quote).shares ≡ asked_shares s e))

pub record NumberLaws (s : State) : Type 0 where
  -- the number of events committed rises by one with each that is carried out
  pub counts : (steps : List Step) → (state_after s steps).committed ≡ s.committed + length (carried_out s steps)
  -- 23 and 24 let a quote pass only where the number is below 1,000,000
  pub below : (quoted : ℕ) → number_check quoted s.committed ≡ accepted → s.committed < most_events

abbrev pub NumberStatement : Type 0
NumberStatement = (s : State) → NumberLaws s

-- after a commit that was carried out, every quote with the number from before it, or a smaller one, is refused 23
abbrev pub OnceStatement : Type 0
OnceStatement = (s : State) (q r : Quote) (steps : List Step)
    → commit_check s q ≡ accepted
    → r.committed ≤ s.committed
    → commit_answer (state_after (committed_state s q) steps) r ≡ refusal 23 0

-- a quote of vertex 0 is never carried out
abbrev pub VertexStatement : Type 0
VertexStatement = (s : State) (q : Quote) → q.event.vertex ≡ 0 → commit_check s q ≡ accepted → ⊥

-- asking is never refused 23 or 24
abbrev pub AskStatement : Type 0
AskStatement = (s : State) (e : Event) (number place : ℕ) → ask_answer s e ≡ refusal number place → number < 23

-- a refused asking quotes no shares, and a refused commit gives back the state as it came
pub record RefusedLaws (s : State) : Type 0 where
  pub ask : (e : Event) (number place : ℕ) → ask_answer s e ≡ refusal number place
      → asked_shares s e ≡ replicate most_arcs 0
  pub commit : (q : Quote) (number place : ℕ) → commit_answer s q ≡ refusal number place → committed_state s q ≡ s

abbrev pub RefusedStatement : Type 0
RefusedStatement = (s : State) → RefusedLaws s

-- two states have the same number of arcs, the same first parents, costs and marks, and as many events committed
pub record Alike (s r : State) : Type 0 where
  pub arcs : s.arcs ≡ r.arcs
  pub parents : take s.arcs s.parents ≡ take s.arcs r.parents
  pub costs : take s.arcs s.costs ≡ take s.arcs r.costs
  pub marks : take s.arcs s.marks ≡ take s.arcs r.marks
  pub committed : s.committed ≡ r.committed

-- nothing else is read: such states have the same answers and quoted shares and, where a quote's event is carried out,
-- the same state afterwards
pub record Same (s r : State) : Type 0 where
  pub asks : (e : Event) → ask_answer s e ≡ ask_answer r e
  pub quotes : (e : Event) → asked_shares s e ≡ asked_shares r e
  pub commits : (q : Quote) → commit_answer s q ≡ commit_answer r q
  pub states : (q : Quote) → commit_check s q ≡ accepted → committed_state s q ≡ committed_state r q

abbrev pub AlikeStatement : Type 0
AlikeStatement = (s r : State) → Alike s r → Same s r
