-- What a check arc by arc finds at an arc, by the entries of the lists.
use Prim.Native.Nat.{ℕ, suc, ◌+◌}
use mathlib.Core.Path.{◌≡◌, ap, ap₂, ◌∙◌}
use mathlib.Core.Bool.{Bool, ◌&&◌}
use mathlib.Core.List.{List}
use native.Mathlib.Numerals.{add-one}
use lib.ListN.{get_or}
use lib.Dec.{eqb, ltb, leb}
use Rattle.limits.specs.Limits.{most_cost}
use Rattle.game.specs.Tree.{has_child}
use Rattle.answer_forms.specs.Answer.{Check, fault, ◌then◌}
use Rattle.answers.specs.Checks.{parent_check, arc_check, mark_check}

-- what is found at the arc after i, by its entries
module _ (ps : List ℕ) (i : ℕ) {found : Check} where
  pub parent_here : found ≡ fault (leb (i + 1) (get_or ps i 0)) 3 (i + 1) → found ≡ parent_check ps (suc i)
  parent_here e = e ∙ ap (λ (k : ℕ). fault (leb k (get_or ps i 0)) 3 k) (add-one i)

module _ (ps cs : List ℕ) (i : ℕ) {found : Check} where
  pub arc_here : found ≡ (fault (leb (i + 1) (get_or ps i 0)) 3 (i + 1) then fault (ltb most_cost (get_or cs i 0)) 4 (i + 1))
      → found ≡ arc_check ps cs (suc i)
  arc_here e =
      e ∙ ap (λ (k : ℕ). fault (leb k (get_or ps i 0)) 3 k then fault (ltb most_cost (get_or cs i 0)) 4 k) (add-one i)

  pub marked_here : (ms : List ℕ) (child : Bool) → child ≡ has_child ps (i + 1)
      → found
      ≡ ((fault (leb (i + 1) (get_or ps i 0)) 3 (i + 1) then fault (ltb most_cost (get_or cs i 0)) 4 (i + 1))
      then (fault (ltb 1 (get_or ms i 0)) 16 (i + 1) then fault (eqb (get_or ms i 0) 1 && child) 17 (i + 1)))
      → found ≡ (arc_check ps cs (suc i) then mark_check ps ms (suc i))
  marked_here ms child known e =
      e
      ∙ ap₂
      (λ (k : ℕ) (b : Bool).
      (fault (leb k (get_or ps i 0)) 3 k then fault (ltb most_cost (get_or cs i 0)) 4 k)
      then (fault (ltb 1 (get_or ms i 0)) 16 k then fault (eqb (get_or ms i 0) 1 && b) 17 k))
      (add-one i) (known ∙ ap (has_child ps) (add-one i))
