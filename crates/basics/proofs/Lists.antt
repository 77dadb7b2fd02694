-- The list f 0, f 1, .., f (n - 1) of `entries`, and the list f 1, f 2, .., f m of `list`.
--
--   entries_length, entries_at, entries_are   its length; its entry i; a list with these entries is that list
--   entries_front, entries_part               it as the front of a list, and as the part that code takes
--   list_length, list_at, list_is             the same of `list`, whose entry i is f (i + 1)
--   list_cong                                 two such lists with the same entries
--   front_part                                the part that code takes of a list that starts with another
--   zeros_length                              the front of an array of zeros, lent as a list
use Prim.Native.Nat.{ℕ, zero, suc, ◌-◌, ◌<◌, ◌≤◌}
use mathlib.Core.Path.{◌≡◌, refl, sym, ap, ap₂, ◌∙◌}
use mathlib.Core.List.{List, [], ◌∷◌, ◌++◌}
use native.Mathlib.Decide.{dec_lt}
use native.Mathlib.Nat.{sub-zero}
use native.Mathlib.Omega.{arith}
use lib.ListN.{length, get_or, take, replicate, length-append, length-take, length-replicate, get_or-append}
use lib.Seq.{get_or_at, take_at, ext_get_or}
use Rattle.basics.specs.Sum.{list, entries}
use Rattle.basics.proofs.Sums.{In, in_last, in_more}

-- the part [0..n] that code takes of a list whose first n entries are another's
pub front_part : {A : Type 0} (front rest : List A) (n : ℕ) → length front ≡ n → take (n - 0) (front ++ rest) ≡ front
front_part front rest n e = rw sub-zero (take_at front rest n e)

module _ {A : Type 0} (f : ℕ → A) where
  pub entries_length : (n : ℕ) → length (entries n f) ≡ n
  unfolding entries
  entries_length zero = refl
  entries_length (suc n) = omega (arith, length-append (entries n f) (f n ∷ []), entries_length n)

  -- the front of a list that starts with f's, and as the part [0..n] that code takes
  pub entries_front : (n : ℕ) (rest : List A) → take n (entries n f ++ rest) ≡ entries n f
  entries_front n rest = take_at (entries n f) rest n (entries_length n)

  pub entries_part : (n : ℕ) (rest : List A) {l : List A} → l ≡ entries n f ++ rest → take (n - 0) l ≡ entries n f
  entries_part n rest e = rw e (front_part (entries n f) rest n (entries_length n))

  module _ (d : A) where
    pub entries_at : (n i : ℕ) → i < n → get_or (entries n f) i d ≡ f i
    unfolding entries
    entries_at zero i h = absurd (omega arith)
    entries_at (suc n) i h =
        elim (dec_lt i n) [
          | yes l ↦ get_or-append (entries n f) (f n ∷ []) d i (omega (arith, entries_length n)) ∙ entries_at n i l
          | no l ↦ last (omega arith)
        ]
      where
        last : i ≡ n → get_or (entries n f ++ (f n ∷ [])) i d ≡ f i
        last e = get_or_at (entries n f) (f n) [] d i (entries_length n ∙ sym e) ∙ ap f (sym e)

    -- a list that has f's values at all its places is f's list
    pub entries_are : (n : ℕ) (l : List A) → length l ≡ n → ((i : ℕ) → i < n → get_or l i d ≡ f i) → l ≡ entries n f
    entries_are n l e h =
        ext_get_or d l (entries n f) (e ∙ sym (entries_length n))
        (λ i b. h i (omega arith) ∙ sym (entries_at n i (omega arith)))

module _ {A : Type 0} (f : ℕ → A) where
  -- a list from 1 as one from 0, with the same laws
  from_one : (m : ℕ) → list m f ≡ entries m (λ i. f (suc i))
  unfolding entries
  from_one zero = refl
  from_one (suc m) = ap (λ (l : List A). l ++ (f (suc m) ∷ [])) (from_one m)

  pub list_length : (m : ℕ) → length (list m f) ≡ m
  list_length m = rw (from_one m) (entries_length (λ i. f (suc i)) m)

  module _ (d : A) where
    pub list_at : (m i : ℕ) → i < m → get_or (list m f) i d ≡ f (suc i)
    list_at m i h = rw (from_one m) (entries_at (λ i. f (suc i)) d m i h)

    pub list_is : (m : ℕ) (l : List A) → length l ≡ m → ((i : ℕ) → i < m → get_or l i d ≡ f (suc i)) → l ≡ list m f
    list_is m l e h = rw (from_one m) (entries_are (λ i. f (suc i)) d m l e h)

pub list_cong : {A : Type 0} (m : ℕ) {f g : ℕ → A} → ((k : ℕ) → In m k → f k ≡ g k) → list m f ≡ list m g
list_cong zero h = refl
list_cong {A} (suc m) h =
    ap₂ (λ (l : List A) (x : A). l ++ (x ∷ [])) (list_cong m (λ k i. h k (in_more i))) (h (suc m) (in_last m))

-- the front of an array of zeros, lent as a list
pub zeros_length : (size m : ℕ) → m ≤ size → length {A = ℕ} (take (m - 0) (replicate size 0)) ≡ m
zeros_length size m h = omega (arith, length-take {A = ℕ} (m - 0) (replicate size 0), length-replicate {A = ℕ} size 0)
