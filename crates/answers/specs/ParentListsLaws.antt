-- What is proved of the step through all parent lists of 1 to 6 arcs.
use Rattle.std.specs.Prelude.{ℕ, zero, suc, ◌+◌, ◌≤◌, ◌<◌, ◌≡◌, true, ◌↔◌, List, [], ◌∷◌, ◌++◌, length, get_or, replicate}
use Rattle.limits.specs.Limits.{most_small_arcs}
use Rattle.game.specs.Shapley.{factorial}
use Rattle.answer_forms.specs.Answer.{accepted, value}
use Rattle.answers.specs.Checks.{small_check}
use Rattle.answers.specs.ParentLists.{precedes, parent_lists, next, end, step_answer, step_list}

-- entry i of all parent lists of m arcs
abbrev pub list_at : ℕ → ℕ → List ℕ
list_at m i = get_or (parent_lists m) i []

-- l stands at place i among the parent lists of m arcs
abbrev pub StandsAt : ℕ → List ℕ → ℕ → Type 0
StandsAt m l i = (i < factorial m) × (list_at m i ≡ l)

-- n lists: l, and each other one what a step makes of the one before it
unfoldable pub walk : ℕ → List ℕ → List (List ℕ)
walk zero l = []
walk (suc n) l = l ∷ walk n (step_list l)

-- The shape of a network below a vertex, whatever its arcs are called: no arc, or one with the shape below its lower
-- end, and the shape of the arcs beside it.
pub data Shape : Type 0 where
  bare : Shape
  arc : (below beside : Shape) → Shape

unfoldable pub arcs_of : Shape → ℕ
arcs_of bare = 0
arcs_of (arc below beside) = suc (arcs_of below + arcs_of beside)

-- the parents of a shape's arcs below vertex v, called n, n + 1, .., each before those below it
unfoldable pub called : (v n : ℕ) → Shape → List ℕ
called v n bare = []
called v n (arc below beside) = v ∷ (called n (suc n) below ++ called v (suc n + arcs_of below) beside)

-- a parent list of this shape
abbrev pub parents_of : Shape → List ℕ
parents_of = called 0 1

pub record ParentListsLaws (m : ℕ) : Type 0 where
  -- there are m! lists
  pub count : length (parent_lists m) ≡ factorial m
  -- each precedes all that stand behind it, so none stands twice
  pub rising : (i j : ℕ) → i < j → j < factorial m → precedes (list_at m i) (list_at m j) ≡ true
  pub once : (i j : ℕ) → i < factorial m → j < factorial m → list_at m i ≡ list_at m j → i ≡ j
  -- they are exactly the lists of m arcs that the check accepts
  pub exactly : (l : List ℕ) → ((length l ≡ m) × (small_check l ≡ accepted)) ↔ ((i : ℕ) × StandsAt m l i)
  -- the first is all zeros
  pub first : list_at m 0 ≡ replicate m 0
  -- a step goes from each one to the one behind it
  pub steps : (i : ℕ) → suc i < factorial m
      → (step_answer (list_at m i) ≡ value next) × (step_list (list_at m i) ≡ list_at m (suc i))
  -- and says "end" at the last, which stays
  pub ends : (i : ℕ) → suc i ≡ factorial m
      → (step_answer (list_at m i) ≡ value end) × (step_list (list_at m i) ≡ list_at m i)
  -- so from all zeros m! - 1 steps show every list once, in this order
  pub walked : walk (factorial m) (replicate m 0) ≡ parent_lists m
  -- and every shape of m arcs
  pub shapes : (s : Shape) → arcs_of s ≡ m → (i : ℕ) × StandsAt m (parents_of s) i

abbrev pub ParentListsStatement : Type 0
ParentListsStatement = (m : ℕ) → 1 ≤ m → m ≤ most_small_arcs → ParentListsLaws m
