-- An event on the tree of a state: what is checked before it, and the tree that the changed state has.
use Prim.Native.Nat.{ℕ, zero, suc, ◌-◌, ◌≤◌}
use mathlib.Core.Path.{◌≡◌, refl, sym, ap, ap₂, ◌∙◌}
use mathlib.Core.List.{List}
use native.Mathlib.Nat.{sub-zero}
use native.Mathlib.Omega.{arith}
use lib.ListN.{length, take, length-take}
use lib.Seq.{take-set-lt}
use Rattle.basics.proofs.Sums.{count_le}
use Rattle.limits.specs.Limits.{most_arcs}
use Rattle.game.specs.Network.{member_count}
use Rattle.game.specs.Tree.{Tree, tree_of, network, of_arc}
use Rattle.answer_forms.specs.Answer.{accepted, fault, ◌then◌, answer, written}
use Rattle.answers.specs.Checks.{tree_check}
use Rattle.answers.specs.Members.{member_count_answer}
use Rattle.answers.specs.States.{State, tree_in, made_state}
use Rattle.answers.specs.Events.{Change, arrive, leave, new_cost, Event, put_arc, changed_at, reached, marked_so}
use Rattle.answers.specs.Events.{vertex_check, fit_check, event_check, apply_check}
use Rattle.answers.specs.EventLaws.{members_after, OutcomeLaws}
use Rattle.answers.specs.Quotes.{asked_shares}
use Rattle.answers.proofs.EventLaws.{reached_accepted}
use Rattle.answers.proofs.Limits.{tree_limits}
use Rattle.answers.proofs.Reached.{outcome_laws}

module _ (s : State) where
  pub tree_length : length (tree_in s).parents ≤ s.arcs
  unfolding tree_in
  tree_length = omega (arith, length-take s.arcs s.parents)

  -- 21 and 22, looked up in the part of the marks that code takes
  pub fit_is : (e : Event) → tree_check (tree_in s) ≡ accepted
      → (vertex_check (length (take (s.arcs - 0) s.marks)) e.vertex
      then fault (marked_so (of_arc (take (s.arcs - 0) s.marks) e.vertex) e.change) 22 e.vertex)
      ≡ fit_check (tree_in s) e
  unfolding tree_in
  fit_is e ok = rw (sub-zero s.arcs, (tree_limits (tree_in s) ok).marks)

take_put : (l : List ℕ) (m v x : ℕ) → v ≤ m → take m (put_arc l v x) ≡ put_arc (take m l) v x
take_put l m zero x h = refl
take_put l m (suc u) x h = take-set-lt m l u x (omega arith)

-- the first m entries of a tree's lists
abbrev front : ℕ → Tree → Tree
front m t = tree_of (take m t.parents) (take m t.costs) (take m t.marks)

front_changed : (t : Tree) (m v : ℕ) → v ≤ m → (c : Change) → front m (changed_at t v c) ≡ changed_at (front m t) v c
front_changed t m v h arrive = ap (tree_of (take m t.parents) (take m t.costs)) (take_put t.marks m v 1 h)
front_changed t m v h leave = ap (tree_of (take m t.parents) (take m t.costs)) (take_put t.marks m v 0 h)
front_changed t m v h (new_cost x) =
    ap (λ (l : List ℕ). tree_of (take m t.parents) l (take m t.marks)) (take_put t.costs m v x h)

-- the tree of a state whose lists are another's with the change made
pub changed_tree : (s next : State) (v : ℕ) (c : Change) → v ≤ s.arcs → next.arcs ≡ s.arcs
    → tree_of next.parents next.costs next.marks ≡ changed_at (tree_of s.parents s.costs s.marks) v c
    → tree_in next ≡ changed_at (tree_in s) v c
unfolding tree_in
changed_tree s next v c h arcs is =
    ap₂ front arcs is ∙ front_changed (tree_of s.parents s.costs s.marks) s.arcs v h c

-- an event that 21 and 22 let pass is refused where the tree that it reaches is
module _ (t : Tree) (e : Event) (ok : tree_check t ≡ accepted) (fits : fit_check t e ≡ accepted) where
  pub event_check_lem : event_check t e ≡ tree_check (reached t e)
  unfolding event_check
  event_check_lem = rw fits (sym (outcome_laws t e ok fits).check)

  pub event_answer : member_count_answer (reached t e) ≡ answer (event_check t e) (member_count (network (reached t e)))
  unfolding member_count_answer
  event_answer = rw event_check_lem

-- such an event, on a state with an accepted tree
module _ (s next : State) (e : Event) (ok : tree_check (tree_in s) ≡ accepted)
    (fits : fit_check (tree_in s) e ≡ accepted)
    (arcs : next.arcs ≡ s.arcs)
    (is : tree_of next.parents next.costs next.marks ≡ reached (tree_of s.parents s.costs s.marks) e) where
  laws : OutcomeLaws (tree_in s) e
  laws = outcome_laws (tree_in s) e ok fits

  pub tree_reached : tree_in next ≡ reached (tree_in s) e
  tree_reached = changed_tree s next e.vertex e.change (omega (arith, laws.vertex.last, tree_length s)) arcs is

  pub reached_members : {n : ℕ} → n ≡ member_count (network (tree_in s))
      → members_after n e.change ≡ member_count (network (tree_in next))
  reached_members counts = rw (counts, ← laws.members, tree_reached) refl

  pub reached_check : tree_check (tree_in next) ≡ event_check (tree_in s) e
  reached_check = rw tree_reached (sym (event_check_lem (tree_in s) e ok fits))

  pub reached_count : member_count_answer (tree_in next)
      ≡ answer (event_check (tree_in s) e) (member_count (network (reached (tree_in s) e)))
  reached_count = rw tree_reached (event_answer (tree_in s) e ok fits)

-- the shares of the state after the event
pub asked_shares_lem : (s : State) (e : Event) {next : State} (n : ℕ) → apply_check s e ≡ accepted
    → next ≡ written (apply_check s e) s (made_state (reached (tree_in s) e) n)
    → next.shares ≡ asked_shares s e
unfolding asked_shares made_state
asked_shares_lem s e n go is = rw (is, go, reached_accepted s e go)

-- a tree in the arrays of a state has few members
pub members_few : (s : State) → s.arcs ≤ most_arcs → member_count (network (tree_in s)) ≤ most_arcs
members_few s few =
    omega (arith, count_le (length (tree_in s).parents) (network (tree_in s)).member, tree_length s, few)
