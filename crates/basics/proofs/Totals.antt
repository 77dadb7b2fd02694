-- Sums over a list: `total f l`.
--
--   total_ones, total_has         its length; a term is at most the sum
--   total_places, total_list      by place; over the list 1, 2, .., m
--   total_append, total_parts     of two lists, and of a list in three parts
--   total_next, total_first       one entry more at the end of the front; the first entry, then the others
--   total_none, total_drop        past the end; without a front that adds nothing
--   total_cong, total_mono        equal by places, ordered by points
--   total_add                     of a sum
use Prim.Native.Nat.{ℕ, zero, suc, ◌+◌, ◌≤◌, ◌<◌}
use mathlib.Core.Path.{◌≡◌, refl, ap}
use mathlib.Core.List.{List, [], ◌∷◌, ◌++◌}
use native.Mathlib.Nat.{le_refl}
use native.Mathlib.Numerals.{add-one}
use native.Mathlib.Omega.{arith}
use lib.ListN.{length, get_or, take, drop, take-append-drop, drop_of_length-le}
use lib.Seq.{take-suc, drop-cons}
use Rattle.basics.specs.Sum.{sum, list, sum₀, total}
use Rattle.basics.proofs.Sums.{sum₀_first}

pub total_ones : (us : List ℕ) → total (λ u. 1) us ≡ length us
unfolding total
total_ones [] = refl
total_ones (u ∷ us) = omega (arith, total_ones us)

pub total_has : (g : ℕ → ℕ) (us : List ℕ) (i : ℕ) → i < length us → g (get_or us i 0) ≤ total g us
unfolding total
total_has g [] i h = absurd (omega arith)
total_has g (u ∷ us) zero h = omega arith
total_has g (u ∷ us) (suc i) h = omega (arith, total_has g us i (omega arith))

-- a sum over a list by place
pub total_places : (g : ℕ → ℕ) (us : List ℕ) → total g us ≡ sum₀ (length us) (λ i. g (get_or us i 0))
unfolding total
total_places g [] = refl
total_places g (u ∷ us) = omega (arith, total_places g us, sum₀_first (length us) (λ i. g (get_or (u ∷ us) i 0)))

total_append : (g : ℕ → ℕ) (us vs : List ℕ) → total g (us ++ vs) ≡ total g us + total g vs
unfolding total
total_append g [] vs = omega arith
total_append g (u ∷ us) vs = omega (arith, total_append g us vs)

-- a list in three parts
pub total_parts : (g : ℕ → ℕ) (l : List ℕ) (from count : ℕ)
    → total g l ≡ total g (take from l) + total g (take count (drop from l)) + total g (drop count (drop from l))
total_parts g l from count =
    omega (
      arith,
      ap (total g) (take-append-drop from l),
      total_append g (take from l) (drop from l),
      ap (total g) (take-append-drop count (drop from l)),
      total_append g (take count (drop from l)) (drop count (drop from l)),
    )

-- one entry more
pub total_next : (g : ℕ → ℕ) (l : List ℕ) (i : ℕ) → i < length l
    → total g (take (i + 1) l) ≡ total g (take i l) + g (get_or l i 0)
unfolding total
total_next g l i h = rw (add-one, take-suc l i 0 h) (omega (arith, total_append g (take i l) (get_or l i 0 ∷ [])))

-- from entry i on: that entry, then the others
pub total_first : (g : ℕ → ℕ) (l : List ℕ) (i : ℕ) → i < length l
    → total g (drop i l) ≡ g (get_or l i 0) + total g (drop (suc i) l)
unfolding total
total_first g l i h = rw (drop-cons l i 0 h)

-- past the last entry
pub total_none : (g : ℕ → ℕ) (l : List ℕ) (i : ℕ) → length l ≤ i → total g (drop i l) ≡ 0
unfolding total
total_none g l i h = ap (total g) (drop_of_length-le l h)

-- entries in front that add nothing
pub total_drop : (g : ℕ → ℕ) (us : List ℕ) (k : ℕ) → ((p : ℕ) → p < k → p < length us → g (get_or us p 0) ≡ 0)
    → total g (drop k us) ≡ total g us
unfolding total
total_drop g us zero h = refl
total_drop g [] (suc k) h = refl
total_drop g (u ∷ us) (suc k) h =
    omega (arith, total_drop g us k (λ p a b. h (suc p) (omega arith) (omega arith)), h 0 (omega arith) (omega arith))

-- equal entry by entry
pub total_cong : (f g : ℕ → ℕ) (us : List ℕ) → ((i : ℕ) → i < length us → f (get_or us i 0) ≡ g (get_or us i 0))
    → total f us ≡ total g us
unfolding total
total_cong f g [] h = refl
total_cong f g (u ∷ us) h = omega (arith, h 0 (omega arith), total_cong f g us (λ i l. h (suc i) (omega arith)))

pub total_mono : {f g : ℕ → ℕ} → ((u : ℕ) → f u ≤ g u) → (us : List ℕ) → total f us ≤ total g us
unfolding total
total_mono h [] = le_refl 0
total_mono h (u ∷ us) = omega (arith, h u, total_mono h us)

pub total_add : (f g : ℕ → ℕ) (us : List ℕ) → total (λ u. f u + g u) us ≡ total f us + total g us
unfolding total
total_add f g [] = refl
total_add f g (u ∷ us) = omega (arith, total_add f g us)

-- over the list 1, 2, .., m
pub total_list : (f : ℕ → ℕ) (m : ℕ) → total f (list m (λ v. v)) ≡ sum m f
unfolding total
total_list f zero = refl
total_list f (suc m) = omega (arith, total_append f (list m (λ v. v)) (suc m ∷ []), total_list f m)
