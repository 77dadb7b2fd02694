-- Events: the tree that one reaches, and the refusals.
use Rattle.std.specs.Prelude.{ℕ, zero, suc, Bool, false, ◌||◌, ◌&&◌, not, List, length, set, eqb, ltb}
use Rattle.basics.specs.Sum.{some}
use Rattle.limits.specs.Limits.{most_cost}
use Rattle.game.specs.Tree.{Tree, tree_of, of_arc, has_child, marked}
use Rattle.answer_forms.specs.Answer.{Check, fault, ◌then◌}
use Rattle.answers.specs.States.{State, tree_in, state_check}

pub data Change : Type 0 where
  arrive : Change
  leave : Change
  new_cost : (amount : ℕ) → Change

pub record Event : Type 0 where
  pub vertex : ℕ
  pub change : Change

abbrev pub event_at : ℕ → Change → Event
event_at v change = record { vertex = v; change = change }

-- a list with x for arc k
abbrev pub put_arc : List ℕ → ℕ → ℕ → List ℕ
put_arc l zero x = l
put_arc l (suc i) x = set l i x

-- the tree with the change made at vertex v: arrive sets the mark, leave clears it, new cost replaces the arc's cost
abbrev pub changed_at : Tree → ℕ → Change → Tree
changed_at t v arrive = tree_of t.parents t.costs (put_arc t.marks v 1)
changed_at t v leave = tree_of t.parents t.costs (put_arc t.marks v 0)
changed_at t v (new_cost amount) = tree_of t.parents (put_arc t.costs v amount) t.marks

-- the tree that an event reaches
abbrev pub reached : Tree → Event → Tree
reached t e = changed_at t e.vertex e.change

-- arrive where the mark is 1, or leave where it is 0
abbrev pub marked_so : ℕ → Change → Bool
marked_so mark arrive = eqb mark 1
marked_so mark leave = eqb mark 0
marked_so mark (new_cost amount) = false

-- 21 where the vertex is 0 or above the number of arcs
abbrev pub vertex_check : ℕ → ℕ → Check
vertex_check arcs v = fault (eqb v 0 || ltb arcs v) 21 v

-- on the tree reached: 17 where the vertex is marked and has a child, 18 where no vertex is marked, 4 where the arc's
-- cost is above the limit
unfoldable pub outcome_check : Tree → ℕ → Check
outcome_check t v =
    fault (marked t.marks v && has_child t.parents v) 17 v
    then fault (not (some (length t.parents) (marked t.marks))) 18 0
    then fault (ltb most_cost (of_arc t.costs v)) 4 v

-- on the tree before: 21, then 22
abbrev pub fit_check : Tree → Event → Check
fit_check t e =
    vertex_check (length t.parents) e.vertex
    then fault (marked_so (of_arc t.marks e.vertex) e.change) 22 e.vertex

-- an event on an accepted tree
unfoldable pub event_check : Tree → Event → Check
event_check t e = fit_check t e then outcome_check (reached t e) e.vertex

-- an event on a state
abbrev pub apply_check : State → Event → Check
apply_check s e = state_check s then event_check (tree_in s) e
