-- A commit on any state: carried out or refused, and lists of steps.
use Prim.Native.Nat.{ℕ, suc, ◌+◌, ◌<◌}
use mathlib.Core.Path.{◌≡◌, refl, ap, ◌∙◌}
use mathlib.Core.Bool.{not}
use mathlib.Core.List.{List, [], ◌∷◌, ◌++◌}
use native.Mathlib.Omega.{arith}
use borrow.Author.Tests.{eq-eqb, leb-false}
use lib.ListN.{length, length-append}
use lib.Dec.{eqb}
use Rattle.limits.specs.Limits.{most_events}
use Rattle.answer_forms.specs.Answer.{Check, accepted, refused, fault, ◌then◌, written}
use Rattle.answer_forms.proofs.Composed.{second_accepted, no_fault}
use Rattle.answers.specs.States.{State, made_state, tree_in}
use Rattle.answers.specs.Events.{Event, reached, apply_check}
use Rattle.answers.specs.Quotes.{Quote, limit_check, number_check, commit_check, committed_state}
use Rattle.answers.specs.QuoteLaws.{Step, asking, committing, state_after, carried_by, carried_out}
use Rattle.answers.proofs.MadeStates.{made_committed}
use Rattle.answers.proofs.EventLaws.{reached_accepted}

-- 23 and 24 let a quote pass where n events are committed
pub below_limit : (quoted n : ℕ) → number_check quoted n ≡ accepted → n < most_events
below_limit quoted n ok =
    leb-false most_events n (no_fault _ 24 0 (second_accepted (fault (not (eqb quoted n)) 23 0) (limit_check n) ok))

-- a commit that is carried out
module _ (s : State) (q : Quote) (go : commit_check s q ≡ accepted) where
  pub applies : apply_check s q.event ≡ accepted
  unfolding commit_check
  applies = second_accepted (number_check q.committed s.committed) (apply_check s q.event) go

  pub carried : committed_state s q ≡ made_state (reached (tree_in s) q.event) (suc s.committed)
  unfolding committed_state
  carried = rw go

  pub raised : (committed_state s q).committed ≡ suc s.committed
  raised = rw carried (made_committed _ _ (reached_accepted s q.event applies))

-- a commit that is refused
module _ (s : State) (q : Quote) {number place : ℕ} (turned : commit_check s q ≡ refused number place) where
  pub kept : committed_state s q ≡ s
  unfolding committed_state
  kept = rw turned

-- a quote with the number of the events committed
pub right_number : (n : ℕ) (c : Check) → (number_check n n then c) ≡ (limit_check n then c)
right_number n c = rw (eq-eqb n n refl)

-- steps that carry nothing out leave the state as it is
one_kept : (s : State) (q : Quote) (c : Check) (later : List Event) → commit_check s q ≡ c
    → written c [] (q.event ∷ []) ++ later ≡ []
    → (committed_state s q ≡ s) × (later ≡ [])
one_kept s q accepted later go none = let z : suc (length later) ≡ 0 = ap length none in absurd (omega arith)
one_kept s q (refused number place) later turned none = (kept s q turned, none)

pub all_kept : (s : State) (steps : List Step) → carried_out s steps ≡ [] → state_after s steps ≡ s
unfolding state_after carried_out
all_kept s [] none = refl
all_kept s (asking e ∷ rest) none = all_kept s rest none
all_kept s (committing q ∷ rest) none =
    let one = one_kept s q (commit_check s q) (carried_out (committed_state s q) rest) refl none in
    all_kept (committed_state s q) rest one.1 ∙ one.0

-- the number after a commit, by what its check finds
commit_counts : (s : State) (q : Quote) (c : Check) → commit_check s q ≡ c
    → (committed_state s q).committed ≡ s.committed + length (written c [] (q.event ∷ []))
commit_counts s q accepted go = omega (arith, raised s q go)
commit_counts s q (refused number place) turned = ap (λ (x : State). x.committed) (kept s q turned) ∙ omega arith

pub all_count : (s : State) (steps : List Step)
    → (state_after s steps).committed ≡ s.committed + length (carried_out s steps)
unfolding state_after carried_out
all_count s [] = omega arith
all_count s (asking e ∷ rest) = all_count s rest
all_count s (committing q ∷ rest) =
    let by = carried_by s (committing q) in
    let later = carried_out (committed_state s q) rest in
    omega (
      arith,
      commit_counts s q (commit_check s q) refl,
      all_count (committed_state s q) rest,
      length-append by later,
    )
