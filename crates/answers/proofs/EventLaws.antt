-- Events: the tree that one reaches is accepted, and arrive and leave at one vertex go back to the tree from before.
use Prim.Native.Nat.{ℕ, zero, suc, ◌<◌}
use mathlib.Core.Path.{◌≡◌, refl, sym, ap, ◌∙◌}
use mathlib.Core.Bool.{false}
use mathlib.Core.List.{List}
use native.Mathlib.Omega.{arith}
use borrow.Author.Tests.{eqb-false}
use lib.ListN.{length, set}
use lib.Seq.{set-set, set-get_or}
use lib.Dec.{ltb}
use Rattle.basics.proofs.Sums.{In}
use Rattle.limits.specs.Limits.{most_arcs}
use Rattle.game.specs.Tree.{Tree, tree_of, of_arc}
use Rattle.answer_forms.specs.Answer.{accepted, fault}
use Rattle.answer_forms.proofs.Composed.{first_accepted, second_accepted}
use Rattle.answers.specs.Checks.{tree_check}
use Rattle.answers.specs.States.{State, tree_in, state_check}
use Rattle.answers.specs.Events.{Change, arrive, leave, Event, event_at, put_arc, reached, marked_so}
use Rattle.answers.specs.Events.{fit_check, outcome_check, event_check, apply_check}
use Rattle.answers.specs.EventLaws.{ReachedStatement}
use Rattle.answers.proofs.Accepted.{tree_accepted}
use Rattle.answers.proofs.Reached.{put_same, fits_inside, fits_vertex, fits_mark, mark_bound, outcome_accepted}
use Rattle.answers.proofs.Reached.{outcome_laws}

event_fits : (t : Tree) (e : Event) → event_check t e ≡ accepted → fit_check t e ≡ accepted
unfolding event_check
event_fits t e = first_accepted (fit_check t e) (outcome_check (reached t e) e.vertex)

-- the tree reached by an event that is not refused
pub tree_reached : (t : Tree) → tree_check t ≡ accepted → (e : Event) → event_check t e ≡ accepted
    → tree_check (reached t e) ≡ accepted
unfolding event_check
tree_reached t ok e go =
    (outcome_laws t e ok (event_fits t e go)).check
    ∙ second_accepted (fit_check t e) (outcome_check (reached t e) e.vertex) go

-- the tree of a state on which an event is not refused
holds_tree : (s : State) → state_check s ≡ accepted → tree_check (tree_in s) ≡ accepted
unfolding state_check
holds_tree s = second_accepted (fault (ltb most_arcs s.arcs) 1 0) (tree_check (tree_in s))

pub reached_accepted : ReachedStatement
reached_accepted s e go =
    let own = first_accepted (state_check s) (event_check (tree_in s) e) go in
    tree_reached (tree_in s) (holds_tree s own) e (second_accepted (state_check s) (event_check (tree_in s) e) go)

pub event_vertex : (s : State) (e : Event) → apply_check s e ≡ accepted → 0 < e.vertex
event_vertex s e go =
    let goes = second_accepted (state_check s) (event_check (tree_in s) e) go in
    omega (arith, fits_vertex (tree_in s) e (event_fits (tree_in s) e goes))

-- the second event is not refused, and reaches the tree from before the first
pub record Undone (t : Tree) (e back : Event) : Type 0 where
  pub goes : event_check (reached t e) back ≡ accepted
  pub returns : reached (reached t e) back ≡ t

back_accepted : (t : Tree) (e back : Event) → fit_check (reached t e) back ≡ accepted
    → reached (reached t e) back ≡ t
    → outcome_check t back.vertex ≡ accepted
    → Undone t e back
unfolding event_check
back_accepted t e back fits returns sound = record { goes = rw (fits, returns) sound; returns = returns }

-- a mark put twice, the second time as it was
put_back : (l : List ℕ) (v x : ℕ) {y : ℕ} → of_arc l v ≡ y → put_arc (put_arc l v x) v y ≡ l
put_back l zero x e = refl
put_back l (suc u) x e = set-set l u x _ ∙ ap (set l u) (sym e) ∙ set-get_or l u 0

module _ (t : Tree) (ok : tree_check t ≡ accepted) (v : ℕ) where
  abbrev mark : ℕ
  mark = of_arc t.marks v

  -- the tree with mark x at the vertex
  abbrev put : ℕ → Tree
  put x = tree_of t.parents t.costs (put_arc t.marks v x)

  module _ (c : Change) (go : event_check t (event_at v c) ≡ accepted) where
    abbrev fits : fit_check t (event_at v c) ≡ accepted
    fits = event_fits t (event_at v c) go

    here : In (length t.parents) v
    here = fits_vertex t (event_at v c) fits

    mark_free : marked_so mark c ≡ false
    mark_free = fits_mark t (event_at v c) fits

    fits_again : (x : ℕ) (back : Change) → marked_so x back ≡ false → fit_check (put x) (event_at v back) ≡ accepted
    fits_again x back free =
        rw (
          fits_inside t (event_at v c) fits,
          put_same t.marks v x (omega (arith, (tree_accepted t ok).one_a_vertex, here)),
          free,
        )

  pub arrive_undone : event_check t (event_at v arrive) ≡ accepted → Undone t (event_at v arrive) (event_at v leave)
  arrive_undone go =
      let i = here arrive go in
      let was : mark ≡ 0 = omega (arith, mark_bound t ok v i, eqb-false mark 1 (mark_free arrive go)) in
      back_accepted t (event_at v arrive) (event_at v leave) (fits_again arrive go 1 leave refl)
      (ap (tree_of t.parents t.costs) (put_back t.marks v 1 was)) (outcome_accepted t ok v i)

  pub leave_undone : event_check t (event_at v leave) ≡ accepted → Undone t (event_at v leave) (event_at v arrive)
  leave_undone go =
      let i = here leave go in
      let was : mark ≡ 1 = omega (arith, mark_bound t ok v i, eqb-false mark 0 (mark_free leave go)) in
      back_accepted t (event_at v leave) (event_at v arrive) (fits_again leave go 0 arrive refl)
      (ap (tree_of t.parents t.costs) (put_back t.marks v 0 was)) (outcome_accepted t ok v i)
