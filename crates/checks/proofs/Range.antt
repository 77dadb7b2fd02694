-- The check entry by entry of a list with one entry a member: one turn, and its end.
use Prim.Native.Nat.{ℕ, ◌+◌, ◌<◌, ◌≤◌}
use mathlib.Core.Path.{◌≡◌, ◌∙◌}
use mathlib.Core.Bool.{Bool}
use mathlib.Core.List.{List}
use native.Mathlib.Numerals.{add-one}
use lib.ListN.{length, get_or, drop, drop_of_length-le}
use lib.Seq.{drop-cons}
use Rattle.answer_forms.specs.Answer.{Check, accepted, refused, fault, ◌then◌}
use Rattle.answers.specs.Checks.{range_check}

pub range_end : {A : Type 0} (outside : A → Bool) (j i : ℕ) (l : List A) → length l ≤ i
    → range_check outside j (drop i l) ≡ accepted
unfolding range_check
range_end outside j i l h = rw (drop_of_length-le l h)

-- d stands for an entry past the end; a check has come to entry i, and here is what is found there
module _ {A : Type 0} (outside : A → Bool) (d : A) where
  range_step : (j i : ℕ) (l : List A) → i < length l
      → range_check outside j (drop i l)
      ≡ (fault (outside (get_or l i d)) 7 j then range_check outside (j + 1) (drop (i + 1) l))
  unfolding range_check
  range_step j i l h = rw (add-one i, drop-cons l i d h)

  module _ {found here : Check} (i : ℕ) (l : List A) (h : i < length l) (so_far : found ≡ range_check outside i (drop i l))
      (is : here ≡ fault (outside (get_or l i d)) 7 i) where
    turn : found ≡ (here then range_check outside (i + 1) (drop (i + 1) l))
    turn = rw is (so_far ∙ range_step i i l h)

    pub range_on : here ≡ accepted → found ≡ range_check outside (i + 1) (drop (i + 1) l)
    range_on e = rw e at turn

    pub range_stop : {number place : ℕ} → here ≡ refused number place → here ≡ found
    range_stop e = rw (turn, e)
