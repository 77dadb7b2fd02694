-- States, askings and commits: the state reached is the one made of the tree reached, and quotes are kept.
use Prim.Native.Nat.{ℕ, suc, ◌+◌, ◌<◌, ◌≤◌}
use mathlib.Core.Path.{◌≡◌, refl, sym, ap, ap₂, subst, ◌∙◌}
use mathlib.Core.Logic.{◌⊎◌, inl, inr}
use mathlib.Core.Bool.{Bool, true, false}
use mathlib.Core.List.{List, [], ◌∷◌, ◌++◌}
use native.Mathlib.Omega.{arith}
use borrow.Author.Tests.{ne_eqb, leb-true}
use lib.ListN.{length, length-append}
use lib.Dec.{leb}
use Rattle.limits.specs.Limits.{most_events}
use Rattle.game.specs.Network.{member_count}
use Rattle.game.specs.Tree.{Tree, network}
use Rattle.answer_forms.specs.Answer.{Check, accepted, refused, value, refusal, answer, written}
use Rattle.answer_forms.proofs.Composed.{answered, refused_answer}
use Rattle.answer_forms.proofs.Composed.{then_nothing}
use Rattle.answers.specs.Checks.{tree_check}
use Rattle.answers.specs.Members.{members_check}
use Rattle.answers.specs.ByArc.{by_arc_list}
use Rattle.answers.specs.States.{State, padded, made_state, tree_in, state_check}
use Rattle.answers.specs.Events.{Event, arrive, leave, event_at, reached, event_check, apply_check}
use Rattle.answers.specs.Quotes.{Quote, quote_at, quote_on, ask_answer, asked_shares}
use Rattle.answers.specs.Quotes.{limit_check, commit_check, commit_answer, committed_state}
use Rattle.answers.specs.EventLaws.{tree_after}
use Rattle.answers.specs.QuoteLaws.{Step, asking, committing, stepped, state_after, carried_by, carried_out, Returns}
use Rattle.answers.specs.QuoteLaws.{StateLaws, StepStatement, QuotedStatement, NumberStatement, OnceStatement}
use Rattle.answers.specs.QuoteLaws.{VertexStatement, AskStatement, RefusedStatement, Alike, AlikeStatement}
use Rattle.answers.proofs.Numbers.{by_apply}
use Rattle.answers.proofs.MadeStates.{made_is, tree_in_lem, made_committed, apply_check_lem, commit_check_lem, made_asks}
use Rattle.answers.proofs.MadeStates.{made_quotes, made_commits, made_shares, made_passes}
use Rattle.answers.proofs.EventLaws.{tree_reached, reached_accepted, event_vertex, Undone, arrive_undone}
use Rattle.answers.proofs.EventLaws.{leave_undone}
use Rattle.answers.proofs.Committed.{below_limit, applies, carried, raised, kept, right_number, all_kept}
use Rattle.answers.proofs.Committed.{all_count}

-- the events of two lists, one list after the other
tree_after_both : (t : Tree) (a b : List Event) → tree_after t (a ++ b) ≡ tree_after (tree_after t a) b
unfolding tree_after
tree_after_both t [] b = refl
tree_after_both t (e ∷ rest) b = tree_after_both (reached t e) rest b

-- the state s, from tree t and n events committed, after events
abbrev Reaches : State → Tree → ℕ → List Event → Type 0
Reaches s t n events =
    (s ≡ made_state (tree_after t events) (n + length events)) × (tree_check (tree_after t events) ≡ accepted)

-- no event
stays : (s : State) (t : Tree) (n : ℕ) → s ≡ made_state t n → tree_check t ≡ accepted → Reaches s t n []
unfolding tree_after
stays s t n is ok = (is ∙ ap (made_state t) (omega arith), ok)

module _ (s : State) (t : Tree) (n : ℕ) (is : s ≡ made_state t n) (ok : tree_check t ≡ accepted) where
  tree_of : tree_in s ≡ t
  tree_of = ap tree_in is ∙ tree_in_lem t n ok

  number_of : s.committed ≡ n
  number_of = ap (λ (x : State). x.committed) is ∙ made_committed t n ok

  -- a commit, by what its check finds
  after_commit : (q : Quote) (c : Check) → commit_check s q ≡ c
      → Reaches (committed_state s q) t n (written c [] (q.event ∷ []))
  unfolding tree_after
  after_commit q accepted go =
      let up : suc s.committed ≡ n + 1 = omega (arith, number_of) in (
        carried s q go ∙ ap₂ made_state (ap (λ (r : Tree). reached r q.event) tree_of) up,
        ap (λ (r : Tree). tree_check (reached r q.event)) (sym tree_of)
            ∙ reached_accepted s q.event (applies s q go),
      )
  after_commit q (refused number place) turned = stays (committed_state s q) t n (kept s q turned ∙ is) ok

  after_step : (x : Step) → Reaches (stepped s x) t n (carried_by s x)
  after_step (asking e) = stays s t n is ok
  after_step (committing q) = after_commit q (commit_check s q) refl

after_steps : (s : State) (t : Tree) (n : ℕ) → s ≡ made_state t n → tree_check t ≡ accepted → (steps : List Step)
    → Reaches (state_after s steps) t n (carried_out s steps)
unfolding state_after carried_out
after_steps s t n is ok [] = stays s t n is ok
after_steps s t n is ok (x ∷ rest) =
    let by = carried_by s x in
    let later = carried_out (stepped s x) rest in
    let one = after_step s t n is ok x in
    let more = after_steps (stepped s x) (tree_after t by) (n + length by) one.0 one.1 rest in
    let count : n + length by + length later ≡ n + length (by ++ later) = omega (arith, length-append by later) in (
      more.0 ∙ ap₂ made_state (sym (tree_after_both t by later)) count,
      ap tree_check (tree_after_both t by later) ∙ more.1,
    )

-- an event that goes back to tree t, on the state made of the tree that it goes back from
module _ (t r : Tree) (n : ℕ) (ok : tree_check r ≡ accepted) (back : Event) (goes : event_check r back ≡ accepted)
    (returns : reached r back ≡ t) where
  back_check : commit_check (made_state r n) (quote_at back n) ≡ limit_check n
  back_check =
      commit_check_lem r n ok (quote_at back n)
      ∙ right_number n (event_check r back)
      ∙ then_nothing (limit_check n) goes

  back_state : committed_state (made_state r n) (quote_at back n)
      ≡ written (limit_check n) (made_state r n) (made_state t (suc n))
  unfolding committed_state
  back_state = rw (back_check, tree_in_lem r n ok, made_committed r n ok, returns)

  back_answer : commit_answer (made_state r n) (quote_at back n) ≡ answer (limit_check n) (member_count (network t))
  unfolding commit_answer
  back_answer = rw (back_check, tree_in_lem r n ok, returns)

  goes_back : (s : State) → s ≡ made_state r n → Returns t n s back
  goes_back s is =
      let number = made_committed r n ok in
      rw is
      (record {
        asked = made_asks r n ok back ∙ rw (goes, returns, number);
        answer = ap (λ (k : ℕ). commit_answer (made_state r n) (quote_at back k)) number ∙ back_answer;
        state = ap (λ (k : ℕ). committed_state (made_state r n) (quote_at back k)) number ∙ back_state;
      })

-- a state that is the one made of a tree
module _ (t : Tree) (n : ℕ) (ok : tree_check t ≡ accepted) (s : State) (is : s ≡ made_state t n) where
  -- an event carried out, and one that goes back
  module _ (e back : Event) (go : commit_check s (quote_on s e) ≡ accepted) where
    event_goes : event_check t e ≡ accepted
    event_goes =
        sym (apply_check_lem t n ok e) ∙ ap (λ (x : State). apply_check x e) (sym is) ∙ applies s (quote_on s e) go

    back_again : Undone t e back → Returns t (suc n) (committed_state s (quote_on s e)) back
    back_again undone =
        let tree = tree_reached t ok e event_goes in
        let up : suc s.committed ≡ suc n = omega (arith, number_of s t n is ok) in
        goes_back t (reached t e) (suc n) tree back undone.goes undone.returns (committed_state s (quote_on s e))
        (carried s (quote_on s e) go ∙ ap₂ made_state (ap (λ (r : Tree). reached r e) (tree_of s t n is ok)) up)

  -- what is quoted for an event that is not refused
  quoted_shares : (e : Event) (out : List ℕ) → event_check t e ≡ accepted → members_check (reached t e) out ≡ accepted
      → asked_shares s e ≡ padded (by_arc_list (reached t e) out)
  unfolding by_arc_list
  quoted_shares e out go fits = rw (is, made_quotes t n ok e, go, fits)

  state_laws : StateLaws t n s
  state_laws =
      record {
        tree_accepted = ok;
        made = is;
        shares = rw is (made_shares t n ok);
        passes = rw is (made_passes t n ok);
        asks = rw is (made_asks t n ok);
        quotes = quoted_shares;
        commits = rw is (made_commits t n ok);
        arrive_leave = λ v go.
            let a = event_at v arrive in
            back_again a (event_at v leave) go (arrive_undone t ok v (event_goes a (event_at v leave) go));
        leave_arrive = λ v go.
            let a = event_at v leave in
            back_again a (event_at v arrive) go (leave_undone t ok v (event_goes a (event_at v arrive) go));
      }

pub step_laws : StepStatement
step_laws t n steps ok =
    let there = after_steps (made_state t n) t n refl ok steps in
    state_laws _ _ there.1 (state_after (made_state t n) steps) there.0

-- the commit of what was quoted on the same state
module _ (s : State) (e : Event) (go : apply_check s e ≡ accepted) where
  own_check : commit_check s (quote_on s e) ≡ limit_check s.committed
  unfolding commit_check
  own_check = right_number s.committed (apply_check s e) ∙ then_nothing (limit_check s.committed) go

  abbrev Outcome : Quote → ℕ → Type 0
  Outcome q members =
      ((most_events ≤ s.committed) × (commit_answer s q ≡ refusal 24 0))
      ⊎ ((commit_answer s q ≡ value members) × ((committed_state s q).shares ≡ asked_shares s e))

  own_commit : (b : Bool) → leb most_events s.committed ≡ b
      → Outcome (quote_on s e) (member_count (network (reached (tree_in s) e)))
  unfolding commit_answer committed_state asked_shares
  own_commit true full = inl (leb-true most_events s.committed full, rw (own_check, full))
  own_commit false room =
      let made = made_is (reached (tree_in s) e) (suc s.committed) (reached_accepted s e go) in
      inr (rw (own_check, room), rw (own_check, room, go, made))

pub quoted_kept : QuotedStatement
unfolding ask_answer
quoted_kept s e quoted steps given none =
    let is = answered (apply_check s e) _ quoted given in
    rw (all_kept s steps none, is.1) (own_commit s e is.0 (leb most_events s.committed) refl)

pub number_laws : NumberStatement
number_laws s = record { counts = all_count s; below = λ quoted. below_limit quoted s.committed }

-- a quote whose number is another
other_number : (s : State) (q : Quote) → (q.committed ≡ s.committed → ⊥) → commit_answer s q ≡ refusal 23 0
unfolding commit_answer commit_check
other_number s q other = rw (ne_eqb q.committed s.committed other)

pub used_once : OnceStatement
used_once s q r steps go old =
    let next = committed_state s q in
    other_number (state_after next steps) r (λ same. omega (arith, all_count next steps, raised s q go, same, old))

pub vertex_counts : VertexStatement
vertex_counts s q none go = omega (arith, none, event_vertex s q.event (applies s q go))

-- what is not refused, or by a number below 23
abbrev Below : Check → Type 0
Below accepted = Unit {0}
Below (refused number place) = number < 23

pub ask_numbers : AskStatement
unfolding ask_answer
ask_numbers s e number place is =
    subst Below (refused_answer (apply_check s e) _ (sym is)) (by_apply Below tt (λ n place h. omega arith) s e)

pub refused_keeps : RefusedStatement
unfolding ask_answer asked_shares padded commit_answer
refused_keeps s =
    record {
      ask = λ e number place is. rw (refused_answer (apply_check s e) _ (sym is));
      commit = λ q number place is. kept s q (refused_answer (commit_check s q) _ (sym is));
    }

-- two states that are alike
module _ (s r : State) (a : Alike s r) where
  alike_tree : tree_in s ≡ tree_in r
  unfolding tree_in
  alike_tree = rw (a.parents, a.costs, a.marks, a.arcs)

  alike_apply : (e : Event) → apply_check s e ≡ apply_check r e
  unfolding state_check
  alike_apply e = rw (alike_tree, a.arcs)

  alike_commit : (q : Quote) → commit_check s q ≡ commit_check r q
  unfolding commit_check
  alike_commit q = rw (alike_apply q.event, a.committed)

  alike_asks : (e : Event) → ask_answer s e ≡ ask_answer r e
  unfolding ask_answer
  alike_asks e = rw (alike_apply e, alike_tree, a.committed)

  alike_quotes : (e : Event) → asked_shares s e ≡ asked_shares r e
  unfolding asked_shares
  alike_quotes e = rw (alike_apply e, alike_tree)

  alike_answers : (q : Quote) → commit_answer s q ≡ commit_answer r q
  unfolding commit_answer
  alike_answers q = rw (alike_commit q, alike_tree)

  alike_states : (q : Quote) → commit_check s q ≡ accepted → committed_state s q ≡ committed_state r q
  alike_states q go =
      carried s q go
      ∙ ap₂ (λ (t : Tree) (n : ℕ). made_state (reached t q.event) (suc n)) alike_tree a.committed
      ∙ sym (carried r q (sym (alike_commit q) ∙ go))

pub alike_same : AlikeStatement
alike_same s r a =
    record {
      asks = alike_asks s r a;
      quotes = alike_quotes s r a;
      commits = alike_answers s r a;
      states = alike_states s r a;
    }
