-- The size of a group: how many of the numbers below n are in it.
--
--   size_more, size_first    one number more at the end, and at the beginning
--   size_split               a range in two parts
--   size_le, size_none       at most the range; nobody
--   size_same, size_full     equal by points; a part that is no smaller is all of it
use Prim.Native.Nat.{ℕ, zero, suc, pred, ◌+◌, ◌*◌, ◌<◌, ◌≤◌}
use mathlib.Core.Path.{◌≡◌, refl, sym, ap, ap₂, ◌∙◌}
use mathlib.Core.Bool.{Bool, true, false}
use native.Mathlib.Nat.{add-zero, add-suc}
use mathlib.Core.Logic.{⊎_elim}
use native.Mathlib.Decide.{dec_lt}
use native.Mathlib.Omega.{arith}
use Rattle.basics.specs.Sum.{pick, sum₀, size}
use Rattle.basics.proofs.Bools.{both, pick_mono, pick_yes, pick_no}
use Rattle.basics.proofs.Sums.{sum_count, count_le, sum₀_is, sum₀_first}

pub size_more : (n : ℕ) (g : ℕ → Bool) → size (suc n) g ≡ size n g + pick (g n) 1
unfolding size
size_more n g = refl

pub size_le : (n : ℕ) (g : ℕ → Bool) → size n g ≤ n
unfolding size
size_le n g = simp sum₀_is (count_le n (λ k. g (pred k)))

-- one amount for each member of the group
pub size_times : (n x : ℕ) (g : ℕ → Bool) → sum₀ n (λ i. pick (g i) x) ≡ x * size n g
unfolding size
size_times n x g = simp sum₀_is (sum_count n x (λ k. g (pred k)))

pub size_split : (n m : ℕ) (g : ℕ → Bool) → size (n + m) g ≡ size n g + size m (λ i. g (n + i))
unfolding size
size_split n zero g = rw (add-zero n) (omega arith)
size_split n (suc m) g = rw add-suc (omega (arith, size_split n m g))

-- from the first number on
pub size_first : (n : ℕ) (g : ℕ → Bool) → size (suc n) g ≡ pick (g 0) 1 + size n (λ i. g (suc i))
unfolding size
size_first n g = sum₀_first n (λ i. pick (g i) 1)

pub size_same : (n : ℕ) (f g : ℕ → Bool) → ((i : ℕ) → i < n → f i ≡ g i) → size n f ≡ size n g
unfolding size
size_same zero f g e = refl
size_same (suc n) f g e =
    ap₂ (λ (x : ℕ) (b : Bool). x + pick b 1) (size_same n f g (λ i h. e i (omega arith))) (e n (omega arith))

size_part : (n : ℕ) (f g : ℕ → Bool) → ((i : ℕ) → i < n → f i ≡ true → g i ≡ true) → size n f ≤ size n g
unfolding size
size_part zero f g h = omega arith
size_part (suc n) f g h =
    omega (arith, size_part n f g (λ i l. h i (omega arith)), pick_mono (f n) (g n) 1 (h n (omega arith)))

-- a part with no fewer members is the whole
pub size_full : (n : ℕ) (f g : ℕ → Bool) → ((i : ℕ) → i < n → f i ≡ true → g i ≡ true) → size n g ≤ size n f → (i : ℕ)
    → i < n → g i ≡ true → f i ≡ true
unfolding size
size_full zero f g h l i b e = absurd (omega arith)
size_full (suc n) f g h l i b e =
    elim (dec_lt i n) [
      | yes c ↦ size_full n f g (λ i l. h i (omega arith))
          (omega (arith, pick_mono (f n) (g n) 1 (h n (omega arith)))) i c e
      | no c ↦ last (omega arith)
    ]
  where
    last : i ≡ n → f i ≡ true
    last d =
        ⊎_elim
        (λ (t : f n ≡ true). ap f d ∙ t)
        (λ (t : f n ≡ false).
        absurd (omega (arith, size_part n f g (λ i l. h i (omega arith)), pick_yes 1 (sym (ap g d) ∙ e), pick_no 1 t)))
        (both (f n))

pub size_none : (n : ℕ) (g : ℕ → Bool) → ((i : ℕ) → i < n → g i ≡ false) → size n g ≡ 0
unfolding size
size_none zero g h = refl
size_none (suc n) g h = omega (arith, size_none n g (λ i l. h i (omega arith)), pick_no 1 (h n (omega arith)))
