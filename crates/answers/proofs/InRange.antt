-- A list with one entry a member is accepted exactly when it has that length and each entry is within its range.
use Prim.Native.Nat.{ℕ, zero, suc, ◌+◌, ◌<◌}
use mathlib.Core.Path.{◌≡◌, refl}
use mathlib.Core.Bool.{Bool, false, not}
use mathlib.Core.List.{List, [], ◌∷◌}
use native.Mathlib.Omega.{arith}
use borrow.Author.Tests.{eq-eqb, eqb-true, not-false}
use lib.Dec.{eqb}
use lib.ListN.{length, get_or}
use Rattle.answer_forms.specs.Answer.{accepted, fault}
use Rattle.answer_forms.proofs.Composed.{first_accepted, second_accepted, no_fault}
use Rattle.answers.specs.Checks.{range_check, member_list_check}

-- d stands for an entry past the end
module _ {A : Type 0} (outside : A → Bool) (d : A) where
  all_inside : (j : ℕ) (l : List A) → ((i : ℕ) → i < length l → outside (get_or l i d) ≡ false)
      → range_check outside j l ≡ accepted
  unfolding range_check
  all_inside j [] h = refl
  all_inside j (x ∷ l) h = rw (h 0 (omega arith)) (all_inside (j + 1) l (λ i b. h (suc i) (omega arith)))

  pub in_range : (members : ℕ) (l : List A) → length l ≡ members
      → ((i : ℕ) → i < length l → outside (get_or l i d) ≡ false) → member_list_check outside members l ≡ accepted
  in_range members l e h = rw (eq-eqb (length l) members e) (all_inside 0 l h)

  range_inside : (j : ℕ) (l : List A) → outside d ≡ false → range_check outside j l ≡ accepted → (i : ℕ)
      → outside (get_or l i d) ≡ false
  unfolding range_check
  range_inside j [] past e i = past
  range_inside j (x ∷ l) past e zero =
      no_fault (outside x) 7 j (first_accepted (fault (outside x) 7 j) (range_check outside (j + 1) l) e)
  range_inside j (x ∷ l) past e (suc i) =
      range_inside (j + 1) l past (second_accepted (fault (outside x) 7 j) (range_check outside (j + 1) l) e) i

  -- a list on which no check finds fault: one entry a member, each within its range
  pub record Inside (members : ℕ) (l : List A) : Type 0 where
    pub same : length l ≡ members
    pub inside : (i : ℕ) → outside (get_or l i d) ≡ false

  pub list_accepted : (members : ℕ) (l : List A) → outside d ≡ false → member_list_check outside members l ≡ accepted
      → Inside members l
  list_accepted members l past e =
      record {
        same =
            eqb-true (length l) members
            (not-false (eqb (length l) members)
            (no_fault unlike 6 0 (first_accepted (fault unlike 6 0) (range_check outside 0 l) e)));
        inside = range_inside 0 l past (second_accepted (fault unlike 6 0) (range_check outside 0 l) e);
      }
    where
      unlike : Bool
      unlike = not (eqb (length l) members)
