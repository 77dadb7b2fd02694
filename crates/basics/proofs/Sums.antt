-- Laws of sums and tests over 1 to m. `In m k` says that k is one of 1 to m.
--
--   sum_cong, sum_mono, sum_zero      equal by points, ordered by points, 0 at each point
--   sum_add, sum_times, sum_pick      of a sum, with a factor, under one test
--   sum_swap                          two sums exchanged
--   sum_at, term_le                   the one term that a test leaves; a term is at most the sum
--   sum_but_one, sum_gap              two sums whose terms are the same but one; two that are ordered by points
--   sum_parts, sum_longer, sum_bound  by a test and its negation; a longer range; a bound
--   some_of, some_is, some_none       `some` from a witness, a witness `Some` from it, and that there is none
--   sum_pos, sum_more_some            a term that makes a sum positive, or greater than another
--   sum₀_is                           a sum from 0 as one from 1; its laws sum₀_add and so on come from there
--   sum₀_first                        its first term, then the others
use Prim.Native.Nat.{ℕ, zero, suc, pred, ◌+◌, ◌*◌, ◌-◌, ◌≤◌, ◌<◌, zero-le}
use mathlib.Core.Path.{◌≡◌, refl, sym, ap, ap₂, ◌∙◌}
use mathlib.Core.Bool.{Bool, true, false, not, ◌||◌, false≢true}
use mathlib.Core.Logic.{⊎_elim}
use native.Mathlib.Nat.{le_refl, mul-zero, mul-one, suc-mul}
use native.Mathlib.Decide.{dec_le, dec_lt, ℕ_discrete}
use native.Mathlib.Omega.{arith}
use borrow.Author.Tests.{eq-eqb, ne_eqb, lt-ltb}
use lib.Dec.{eqb, ltb, eqb-suc-suc}
use Rattle.basics.specs.Sum.{pick, sum, count, some, sum₀}
use Rattle.basics.proofs.Bools.{pick_zero, pick_add, pick_parts, pick_yes, pick_no, pick_le, or_first}
use Rattle.basics.proofs.Bools.{or_second, or_cases}

-- k is one of 1 to m
pub record In (m k : ℕ) : Type 0 where
  pub low : 0 < k
  pub high : k ≤ m

pub in_last : (m : ℕ) → In (suc m) (suc m)
in_last m = omega arith

pub in_more : {m k : ℕ} → In m k → In (suc m) k
in_more i = omega arith

pub sum_cong : (m : ℕ) {f g : ℕ → ℕ} → ((k : ℕ) → In m k → f k ≡ g k) → sum m f ≡ sum m g
sum_cong zero h = refl
sum_cong (suc m) h = ap₂ (λ (a b : ℕ). a + b) (sum_cong m (λ k i. h k (in_more i))) (h (suc m) (in_last m))

pub sum_mono : (m : ℕ) {f g : ℕ → ℕ} → ((k : ℕ) → In m k → f k ≤ g k) → sum m f ≤ sum m g
sum_mono zero h = le_refl 0
sum_mono (suc m) {f} {g} h = omega (arith, sum_mono m {f = f} {g = g} (λ k i. h k (in_more i)), h (suc m) (in_last m))

pub sum_add : (m : ℕ) (f g : ℕ → ℕ) → sum m (λ k. f k + g k) ≡ sum m f + sum m g
sum_add zero f g = refl
sum_add (suc m) f g = omega (arith, sum_add m f g)

pub sum_times : (m c : ℕ) (f : ℕ → ℕ) → c * sum m f ≡ sum m (λ k. c * f k)
sum_times zero c f = mul-zero c
sum_times (suc m) c f = omega (arith, sum_times m c f)

-- one amount, as often as the test holds
pub sum_count : (m x : ℕ) (f : ℕ → Bool) → sum m (λ k. pick (f k) x) ≡ x * count m f
sum_count m x f = sum_cong m (λ k i. sym (times_pick x (f k))) ∙ sym (sum_times m x (λ k. pick (f k) 1))
  where
    times_pick : (x : ℕ) (b : Bool) → x * pick b 1 ≡ pick b x
    times_pick x true = mul-one x
    times_pick x false = mul-zero x

pub sum_zero : (m : ℕ) {f : ℕ → ℕ} → ((k : ℕ) → In m k → f k ≡ 0) → sum m f ≡ 0
sum_zero zero h = refl
sum_zero (suc m) {f} h = omega (arith, sum_zero m {f = f} (λ k i. h k (in_more i)), h (suc m) (in_last m))

-- two sums change places
pub sum_swap : (m n : ℕ) (f : ℕ → ℕ → ℕ) → sum m (λ k. sum n (λ v. f k v)) ≡ sum n (λ v. sum m (λ k. f k v))
sum_swap zero n f = sym (sum_zero n (λ k i. refl))
sum_swap (suc m) n f =
    ap (λ (s : ℕ). s + sum n (λ v. f (suc m) v)) (sum_swap m n f)
    ∙ sym (sum_add n (λ v. sum m (λ k. f k v)) (λ v. f (suc m) v))

pub sum_pick : (b : Bool) (m : ℕ) (f : ℕ → ℕ) → sum m (λ k. pick b (f k)) ≡ pick b (sum m f)
sum_pick b zero f = sym (pick_zero b)
sum_pick b (suc m) f = ap (λ (s : ℕ). s + pick b (f (suc m))) (sum_pick b m f) ∙ sym (pick_add b (sum m f) (f (suc m)))

-- the last of the numbers, or one before it
pub in_cases : {A : Type 0} (m k : ℕ) → In (suc m) k → (In m k → A) → (k ≡ suc m → A) → A
in_cases m k i before last = elim (dec_le k m) [ yes h ↦ before (omega arith) | no h ↦ last (omega arith) ]

-- what a test picks and what it leaves
pub sum_parts : (m : ℕ) (s : ℕ → Bool) (f : ℕ → ℕ)
    → sum m (λ k. pick (s k) (f k)) + sum m (λ k. pick (not (s k)) (f k)) ≡ sum m f
sum_parts m s f =
    sym (sum_add m (λ k. pick (s k) (f k)) (λ k. pick (not (s k)) (f k))) ∙ sum_cong m (λ k i. pick_parts (s k) (f k))

-- all terms but one are 0
pub sum_at : (m k : ℕ) (f : ℕ → ℕ) → In m k → sum m (λ v. pick (eqb k v) (f v)) ≡ f k
sum_at zero k f i = absurd (omega arith)
sum_at (suc m) k f i =
    in_cases m k i
    (λ j. omega (arith, sum_at m k f j, pick_no (f (suc m)) (ne_eqb k (suc m) (λ e. omega arith))))
    (λ e.
    omega (
      arith,
      ap f e,
      pick_yes (f (suc m)) (eq-eqb k (suc m) e),
      sum_zero m {f = λ v. pick (eqb k v) (f v)} (λ v j. pick_no (f v) (ne_eqb k v (λ d. omega arith))),
    ))

-- two sums whose terms are the same but one
pub sum_but_one : (m v : ℕ) (f g : ℕ → ℕ) → In m v → ((k : ℕ) → In m k → (k ≡ v → ⊥) → f k ≡ g k)
    → sum m g + f v ≡ sum m f + g v
sum_but_one m v f g i same =
    ap (λ (x : ℕ). sum m g + x) (sym (sum_at m v f i))
    ∙ sym (sum_add m g (λ k. pick (eqb v k) (f k)))
    ∙ sum_cong m crossed
    ∙ sum_add m f (λ k. pick (eqb v k) (g k))
    ∙ ap (λ (x : ℕ). sum m f + x) (sum_at m v g i)
  where
    crossed : (k : ℕ) → In m k → g k + pick (eqb v k) (f k) ≡ f k + pick (eqb v k) (g k)
    crossed k j =
        elim (ℕ_discrete k v) [
          | yes e ↦ rw (eq-eqb v k (sym e)) (omega arith)
          | no n ↦ rw (ne_eqb v k (λ (e : v ≡ k). n (sym e))) (omega (arith, same k j n))
        ]

pub term_le : (m k : ℕ) (f : ℕ → ℕ) → In m k → f k ≤ sum m f
term_le zero k f i = absurd (omega arith)
term_le (suc m) k f i = in_cases m k i (λ j. omega (arith, term_le m k f j)) (λ e. omega (arith, ap f e))

-- two sums that are ordered by points are as far apart as any two of their terms
pub sum_gap : (m k : ℕ) (f g : ℕ → ℕ) → ((u : ℕ) → In m u → f u ≤ g u) → In m k → sum m f + (g k - f k) ≤ sum m g
sum_gap m k f g le i =
    omega (
      arith,
      term_le m k (λ u. g u - f u) i,
      sum_add m f (λ u. g u - f u),
      sum_cong m {f = g} {g = λ u. f u + (g u - f u)} (λ u j. omega (arith, le u j)),
    )

pub sum_bound : (m b : ℕ) {f : ℕ → ℕ} → ((k : ℕ) → In m k → f k ≤ b) → sum m f ≤ m * b
sum_bound zero b h = zero-le
sum_bound (suc m) b {f} h =
    rw suc-mul (omega (arith, sum_bound m b {f = f} (λ k i. h k (in_more i)), h (suc m) (in_last m)))

pub count_le : (m : ℕ) (b : ℕ → Bool) → count m b ≤ m
count_le zero b = le_refl 0
count_le (suc m) b = omega (arith, count_le m b, pick_le (b (suc m)) 1)

-- a longer sum
pub sum_longer : (a b : ℕ) (f : ℕ → ℕ) → a ≤ b → sum a f ≤ sum b f
sum_longer a zero f h = let e : a ≡ 0 = omega arith in rw e (le_refl 0)
sum_longer a (suc b) f h =
    elim (dec_le a b) [
      | yes l ↦ omega (arith, sum_longer a b f l)
      | no l ↦ let e : a ≡ suc b = omega arith in rw e (le_refl (sum b f + f (suc b)))
    ]

-- one of 1 to m that passes the test
pub record Some (m : ℕ) (f : ℕ → Bool) : Type 0 where
  pub which : ℕ
  pub within : In m which
  pub passes : f which ≡ true

pub some_of : (m k : ℕ) (f : ℕ → Bool) → In m k → f k ≡ true → some m f ≡ true
some_of zero k f i e = absurd (omega arith)
some_of (suc m) k f i e =
    in_cases m k i (λ j. or_first (f (suc m)) (some_of m k f j e)) (λ d. or_second (some m f) (sym (ap f d) ∙ e))

some_more : (m : ℕ) {f : ℕ → Bool} → Some m f → Some (suc m) f
some_more m s = record { which = s.which; within = in_more s.within; passes = s.passes }

pub some_is : (m : ℕ) (f : ℕ → Bool) → some m f ≡ true → Some m f
some_is zero f e = absurd (false≢true e)
some_is (suc m) f e =
    ⊎_elim
    (λ (h : some m f ≡ true). some_more m (some_is m f h))
    (λ (h : f (suc m) ≡ true). record { which = suc m; within = in_last m; passes = h })
    (or_cases (some m f) (f (suc m)) e)

pub some_none : (m : ℕ) (f : ℕ → Bool) → ((i : ℕ) → i < m → f (suc i) ≡ false) → some m f ≡ false
some_none zero f h = refl
some_none (suc m) f h =
    ap₂ (λ (a b : Bool). a || b) (some_none m f (λ i l. h i (omega arith))) (h m (omega arith))

-- a sum above 0 has a term above 0
pub sum_pos : (m : ℕ) (f : ℕ → ℕ) → 0 < sum m f → Some m (λ k. ltb 0 (f k))
sum_pos zero f h = absurd (omega arith)
sum_pos (suc m) f h =
    elim (dec_lt 0 (f (suc m))) [
      | yes l ↦ record { which = suc m; within = in_last m; passes = lt-ltb 0 (f (suc m)) l }
      | no l ↦ some_more m (sum_pos m f (omega arith))
    ]

-- where one sum is above another, one of its terms is
pub sum_more_some : (m : ℕ) (f g : ℕ → ℕ) → sum m f < sum m g → Some m (λ k. ltb (f k) (g k))
sum_more_some zero f g h = absurd (omega arith)
sum_more_some (suc m) f g h =
    elim (dec_lt (f (suc m)) (g (suc m))) [
      | yes l ↦ record { which = suc m; within = in_last m; passes = lt-ltb (f (suc m)) (g (suc m)) l }
      | no l ↦ some_more m (sum_more_some m f g (omega arith))
    ]

-- a sum from 0 as one from 1, with the same laws
pub sum₀_is : (n : ℕ) (f : ℕ → ℕ) → sum₀ n f ≡ sum n (λ k. f (pred k))
sum₀_is zero f = refl
sum₀_is (suc n) f = ap (λ (s : ℕ). s + f n) (sum₀_is n f)

-- the first term, then the others
pub sum₀_first : (n : ℕ) (f : ℕ → ℕ) → sum₀ (suc n) f ≡ f 0 + sum₀ n (λ i. f (suc i))
sum₀_first zero f = omega arith
sum₀_first (suc n) f = omega (arith, sum₀_first n f)

pub sum₀_cong : (n : ℕ) {f g : ℕ → ℕ} → ((i : ℕ) → i < n → f i ≡ g i) → sum₀ n f ≡ sum₀ n g
sum₀_cong n h = simp sum₀_is (sum_cong n (λ k i. h (pred k) (omega arith)))

pub sum₀_mono : (n : ℕ) {f g : ℕ → ℕ} → ((i : ℕ) → i < n → f i ≤ g i) → sum₀ n f ≤ sum₀ n g
sum₀_mono n h = simp sum₀_is (sum_mono n (λ k i. h (pred k) (omega arith)))

pub sum₀_add : (n : ℕ) (f g : ℕ → ℕ) → sum₀ n (λ i. f i + g i) ≡ sum₀ n f + sum₀ n g
sum₀_add n f g = simp sum₀_is (sum_add n (λ k. f (pred k)) (λ k. g (pred k)))

pub sum₀_zero : (n : ℕ) {f : ℕ → ℕ} → ((i : ℕ) → i < n → f i ≡ 0) → sum₀ n f ≡ 0
sum₀_zero n h = simp sum₀_is (sum_zero n (λ k i. h (pred k) (omega arith)))

pub sum₀_swap : (n m : ℕ) (f : ℕ → ℕ → ℕ) → sum₀ n (λ i. sum m (λ k. f i k)) ≡ sum m (λ k. sum₀ n (λ i. f i k))
sum₀_swap n m f = simp sum₀_is (sum_swap n m (λ i k. f (pred i) k))

pub sum₀_swap₀ : (n m : ℕ) (f : ℕ → ℕ → ℕ) → sum₀ n (λ i. sum₀ m (λ k. f i k)) ≡ sum₀ m (λ k. sum₀ n (λ i. f i k))
sum₀_swap₀ n m f =
    sum₀_cong n (λ i h. sum₀_is m (f i))
    ∙ sum₀_swap n m (λ i k. f i (pred k))
    ∙ sym (sum₀_is m (λ k. sum₀ n (λ i. f i k)))

pub sum₀_pick : (b : Bool) (n : ℕ) (f : ℕ → ℕ) → sum₀ n (λ i. pick b (f i)) ≡ pick b (sum₀ n f)
sum₀_pick b n f = simp sum₀_is (sum_pick b n (λ k. f (pred k)))

pub sum₀_at : (n j : ℕ) (f : ℕ → ℕ) → j < n → sum₀ n (λ i. pick (eqb j i) (f i)) ≡ f j
sum₀_at n j f h =
    simp sum₀_is
    (sum_cong n (λ k i. ap (λ (b : Bool). pick b (f (pred k))) (next k i.low))
    ∙ sum_at n (suc j) (λ k. f (pred k)) (omega arith))
  where
    next : (k : ℕ) → 0 < k → eqb j (pred k) ≡ eqb (suc j) k
    next zero p = absurd (omega arith)
    next (suc i) p = sym (eqb-suc-suc j i)

pub term₀_le : (n j : ℕ) (f : ℕ → ℕ) → j < n → f j ≤ sum₀ n f
term₀_le n j f h = simp sum₀_is (term_le n (suc j) (λ k. f (pred k)) (omega arith))

pub sum₀_bound : (n b : ℕ) {f : ℕ → ℕ} → ((i : ℕ) → i < n → f i ≤ b) → sum₀ n f ≤ n * b
sum₀_bound n b h = simp sum₀_is (sum_bound n b (λ k i. h (pred k) (omega arith)))
