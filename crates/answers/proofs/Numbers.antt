-- The numbers by which a tree and an event on a state are refused: from 1 to 22.
use Prim.Native.Nat.{ℕ, zero, suc, ◌<◌}
use mathlib.Core.Bool.{Bool, ◌||◌, ◌&&◌, not}
use mathlib.Core.List.{List}
use native.Mathlib.Omega.{arith}
use lib.ListN.{length}
use lib.Dec.{eqb, ltb, leb}
use Rattle.basics.specs.Sum.{some}
use Rattle.limits.specs.Limits.{most_arcs, most_cost}
use Rattle.game.specs.Tree.{Tree, of_arc, has_child, marked}
use Rattle.answer_forms.specs.Answer.{Check, accepted, refused, fault, ◌then◌}
use Rattle.answer_forms.proofs.Composed.{fault_holds, then_holds}
use Rattle.answers.specs.Checks.{unlike, arc_check, mark_check, one_by_one, tree_check}
use Rattle.answers.specs.States.{State, tree_in, state_check}
use Rattle.answers.specs.Events.{Event, reached, marked_so, fit_check, outcome_check, event_check, apply_check}

-- what holds where nothing is found, and of each refusal by such a number
module _ (Holds : Check → Type 0) (nothing : Holds accepted)
    (each : (n place : ℕ) → n < 22 → Holds (refused (suc n) place)) where
  by_fault : (b : Bool) (n place : ℕ) → n < 22 → Holds (fault b (suc n) place)
  by_fault b n place h = fault_holds Holds b nothing (each n place h)

  by_fault_then : (b : Bool) (n place : ℕ) (next : Check) → n < 22 → Holds next
      → Holds (fault b (suc n) place then next)
  by_fault_then b n place next h = then_holds Holds (fault b (suc n) place) next (by_fault b n place h)

  by_arc_lem : (parents costs marks : List ℕ) (k : ℕ) → Holds (arc_check parents costs k then mark_check parents marks k)
  by_arc_lem parents costs marks k =
      then_holds Holds (arc_check parents costs k) (mark_check parents marks k)
      (by_fault_then (leb k (of_arc parents k)) 2 k _ (omega arith)
      (by_fault (ltb most_cost (of_arc costs k)) 3 k (omega arith)))
      (by_fault_then (ltb 1 (of_arc marks k)) 15 k _ (omega arith)
      (by_fault (marked marks k && has_child parents k) 16 k (omega arith)))

  by_arcs : (check : ℕ → Check) → ((k : ℕ) → Holds (check k)) → (k : ℕ) → Holds (one_by_one check k)
  unfolding one_by_one
  by_arcs check at_arc zero = nothing
  by_arcs check at_arc (suc k) =
      then_holds Holds (one_by_one check k) (check (suc k)) (by_arcs check at_arc k) (at_arc (suc k))

  pub by_tree : (t : Tree) → Holds (tree_check t)
  unfolding tree_check
  by_tree t =
      let parents = t.parents in
      by_fault_then (eqb (length parents) 0 || ltb most_arcs (length parents)) 0 0 _ (omega arith)
      (by_fault_then (unlike parents t.costs || unlike parents t.marks) 1 0 _ (omega arith)
      (then_holds Holds (one_by_one _ (length parents)) _
      (by_arcs _ (by_arc_lem parents t.costs t.marks) (length parents))
      (by_fault (not (some (length parents) (marked t.marks))) 17 0 (omega arith))))

  by_event : (t : Tree) (e : Event) → Holds (event_check t e)
  unfolding event_check outcome_check
  by_event t e =
      let v = e.vertex in
      let after = reached t e in
      then_holds Holds (fit_check t e) (outcome_check after v)
      (by_fault_then (eqb v 0 || ltb (length t.parents) v) 20 v _ (omega arith)
      (by_fault (marked_so (of_arc t.marks v) e.change) 21 v (omega arith)))
      (by_fault_then (marked after.marks v && has_child after.parents v) 16 v _ (omega arith)
      (by_fault_then (not (some (length after.parents) (marked after.marks))) 17 0 _ (omega arith)
      (by_fault (ltb most_cost (of_arc after.costs v)) 3 v (omega arith))))

  pub by_apply : (s : State) (e : Event) → Holds (apply_check s e)
  unfolding state_check
  by_apply s e =
      then_holds Holds (state_check s) (event_check (tree_in s) e)
      (by_fault_then (ltb most_arcs s.arcs) 0 0 (tree_check (tree_in s)) (omega arith) (by_tree (tree_in s)))
      (by_event (tree_in s) e)
