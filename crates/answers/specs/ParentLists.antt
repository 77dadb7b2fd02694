-- All parent lists of a few arcs in rising order, and the step from one to the next.
use Rattle.std.specs.Prelude.{ℕ, zero, suc, Bool, false, cond, ◌||◌, ◌&&◌, length, eqb, ltb}
use mathlib.Core.List.{List, [], ◌∷◌, ◌++◌, flat_map}
use Rattle.std.proofs.Math.Option.{Option, none, some, Option-elim, get_or}
use Rattle.basics.specs.Sum.{entries}
use Rattle.answer_forms.specs.Answer.{Answer, answer, written}
use Rattle.answers.specs.Checks.{small_check}

-- of two lists of one length, the first has the lower entry at the first arc where they differ
unfoldable pub precedes : List ℕ → List ℕ → Bool
precedes [] b = false
precedes (x ∷ a) [] = false
precedes (x ∷ a) (y ∷ b) = ltb x y || (eqb x y && precedes a b)

-- a list of m arcs, and one arc more at each of the vertices 0 to m
abbrev pub grown : ℕ → List ℕ → List (List ℕ)
grown m l = entries (suc m) (λ v. l ++ (v ∷ []))

-- all parent lists of m arcs, in rising order
unfoldable pub parent_lists : ℕ → List (List ℕ)
parent_lists zero = [] ∷ []
parent_lists (suc m) = flat_map (grown m) (parent_lists m)

-- the first of these lists that l precedes
unfoldable pub first_after : List ℕ → List (List ℕ) → Option (List ℕ)
first_after l [] = none
first_after l (x ∷ rest) = cond (precedes l x) (some x) (first_after l rest)

-- the next parent list of as many arcs
unfoldable pub following : List ℕ → Option (List ℕ)
following l = first_after l (parent_lists (length l))

-- a list follows, or the list was the last one
pub data Step : Type 0 where
  next : Step
  end : Step

unfoldable pub step_answer : List ℕ → Answer Step
step_answer l = answer (small_check l) (Option-elim (following l) end (λ _. next))

-- the lent list afterwards: the next one, and at the last one as it came
unfoldable pub step_list : List ℕ → List ℕ
step_list l = written (small_check l) l (get_or (following l) l)
