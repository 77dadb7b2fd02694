-- Whole numbers by their parts. `Less x a b` says that x is a less b; it turns sums, orders and equations of whole
-- numbers into such of ℕ, where omega decides them.
--
--   less_parts, less_sub       a number by its own parts; a difference of two of ℕ
--   less_minus, less_sum       of a difference, of a sum
--   less_same, less_is         equal numbers from equal sums, and back
--   less_le, le_less           ordered numbers from ordered sums, and back
--   le_z_true, lt_z_true         the tests as orders
--   sum_pos_ℤ                  a sum of natural numbers
use Prim.Native.Nat.{ℕ, zero, suc, ◌+◌, ◌≤◌, ◌<◌}
use mathlib.Core.Path.{◌≡◌, refl, sym, ap, ap₂, subst}
use mathlib.Core.Bool.{Bool, true, false, not, false≢true}
use mathlib.Core.Logic.{⊎_elim}
use native.Mathlib.Omega.{arith}
use borrow.Author.Tests.{ltb-true, ltb-false}
use lib.Dec.{T, ltb, leb→le, le→leb}
use lib.IntN.{ℤ, pos, negsuc, sub_ℕ, neg_ℤ, ◌+ℤ◌, ◌-ℤ◌}
use lib.Signed.{◌≤ℤ◌, le_z, lt_z, lt_z_no}
use Rattle.basics.specs.Sum.{pick, sum₀}
use Rattle.basics.specs.Integer.{plus, minus, sum_ℤ, pick_ℤ}
use Rattle.basics.proofs.Bools.{both}

-- x is a less b
pub record Less (x : ℤ) (a b : ℕ) : Type 0 where
  pub is : plus x + b ≡ a + minus x

pub less_parts : (x : ℤ) → Less x (plus x) (minus x)
less_parts x = record { is = refl }

pub less_sub : (a b : ℕ) → Less (sub_ℕ a b) a b
less_sub a b =
    ⊎_elim
    (λ (e : ltb a b ≡ true). rw e (omega (arith, ltb-true a b e)))
    (λ (e : ltb a b ≡ false). rw e (omega (arith, ltb-false a b e)))
    (both (ltb a b))

less_add : (x y : ℤ) {a b c d : ℕ} → Less x a b → Less y c d → Less (x +ℤ y) (a + c) (b + d)
less_add (pos x) (pos y) h k = omega arith
less_add (pos x) (negsuc y) h k = omega (arith, less_sub x (suc y))
less_add (negsuc x) (pos y) h k = omega (arith, less_sub y (suc x))
less_add (negsuc x) (negsuc y) h k = omega arith

less_neg : (x : ℤ) {a b : ℕ} → Less x a b → Less (neg_ℤ x) b a
less_neg (pos zero) h = omega arith
less_neg (pos (suc x)) h = omega arith
less_neg (negsuc x) h = omega arith

pub less_minus : (x y : ℤ) {a b c d : ℕ} → Less x a b → Less y c d → Less (x -ℤ y) (a + d) (b + c)
less_minus x y h k = less_add x (neg_ℤ y) h (less_neg y k)

pub less_same : (x y : ℤ) {a b c d : ℕ} → Less x a b → Less y c d → a + d ≡ c + b → x ≡ y
less_same (pos x) (pos y) h k e = ap pos (omega arith)
less_same (pos x) (negsuc y) h k e = absurd (omega arith)
less_same (negsuc x) (pos y) h k e = absurd (omega arith)
less_same (negsuc x) (negsuc y) h k e = ap negsuc (omega arith)

pub less_is : {x y : ℤ} {a b c d : ℕ} → Less x a b → Less y c d → x ≡ y → a + d ≡ c + b
less_is {x} {y} h k e = omega (arith, ap plus e, ap minus e)

pub less_le : (x y : ℤ) {a b c d : ℕ} → Less x a b → Less y c d → a + d ≤ c + b → x ≤ℤ y
less_le (pos x) (pos y) h k l = record { le = le→leb x y (omega arith) }
less_le (pos x) (negsuc y) h k l = absurd (omega arith)
less_le (negsuc x) (pos y) h k l = record { le = tt }
less_le (negsuc x) (negsuc y) h k l = record { le = le→leb y x (omega arith) }

pub le_less : (x y : ℤ) {a b c d : ℕ} → Less x a b → Less y c d → x ≤ℤ y → a + d ≤ c + b
le_less (pos x) (pos y) h k l = omega (arith, leb→le x y l.le)
le_less (pos x) (negsuc y) h k l = absurd l.le
le_less (negsuc x) (pos y) h k l = omega arith
le_less (negsuc x) (negsuc y) h k l = omega (arith, leb→le y x l.le)

pub le_trans_ℤ : {x y z : ℤ} → x ≤ℤ y → y ≤ℤ z → x ≤ℤ z
le_trans_ℤ {x} {y} {z} h k =
    less_le x z (less_parts x) (less_parts z)
    (omega (arith, le_less x y (less_parts x) (less_parts y) h, le_less y z (less_parts y) (less_parts z) k))

-- the tests
pub le_z_true : (x y : ℤ) → le_z x y ≡ true → x ≤ℤ y
le_z_true x y e = record { le = subst T (sym e) tt }

pub true_le_z : {x y : ℤ} → x ≤ℤ y → le_z x y ≡ true
true_le_z {x} {y} h = holds (le_z x y) h.le
  where
    holds : (b : Bool) → T b → b ≡ true
    holds true t = refl
    holds false t = absurd t

pub lt_z_true : (x y : ℤ) → lt_z x y ≡ true → (x ≤ℤ y) × (y ≤ℤ x → ⊥)
lt_z_true (pos a) (pos b) e = (
  record { le = le→leb a b (omega (arith, ltb-true a b e)) },
  λ h. omega (arith, ltb-true a b e, leb→le b a h.le),
)
lt_z_true (pos a) (negsuc b) e = absurd (false≢true e)
lt_z_true (negsuc a) (pos b) e = (record { le = tt }, λ h. h.le)
lt_z_true (negsuc a) (negsuc b) e = (
  record { le = le→leb b a (omega (arith, ltb-true b a e)) },
  λ h. omega (arith, ltb-true b a e, leb→le a b h.le),
)

pub lt_z_false : (x y : ℤ) → lt_z x y ≡ false → y ≤ℤ x
lt_z_false x y e = lt_z_no (subst (λ (b : Bool). T (not b)) (sym e) tt)

-- x less c against 0 is x against c
pub minus_le : (x : ℤ) (c : ℕ) → (x -ℤ pos c) ≤ℤ pos 0 → x ≤ℤ pos c
minus_le x c h =
    less_le x (pos c) (less_parts x) (less_parts (pos c))
    (omega (
      arith,
      le_less (x -ℤ pos c) (pos 0) (less_minus x (pos c) (less_parts x) (less_parts (pos c)))
          (less_parts (pos 0)) h,
    ))

pub le_minus : (x : ℤ) (c : ℕ) → x ≤ℤ pos c → (x -ℤ pos c) ≤ℤ pos 0
le_minus x c h =
    less_le (x -ℤ pos c) (pos 0) (less_minus x (pos c) (less_parts x) (less_parts (pos c))) (less_parts (pos 0))
    (omega (arith, le_less x (pos c) (less_parts x) (less_parts (pos c)) h))

pub minus_is : (x : ℤ) (c : ℕ) → (x -ℤ pos c) ≡ pos 0 → x ≡ pos c
minus_is x c e =
    less_same x (pos c) (less_parts x) (less_parts (pos c))
    (omega (arith, less_is (less_minus x (pos c) (less_parts x) (less_parts (pos c))) (less_parts (pos 0)) e))

pub is_minus : (x : ℤ) (c : ℕ) → x ≡ pos c → (x -ℤ pos c) ≡ pos 0
is_minus x c e =
    less_same (x -ℤ pos c) (pos 0) (less_minus x (pos c) (less_parts x) (less_parts (pos c))) (less_parts (pos 0))
    (omega (arith, less_is (less_parts x) (less_parts (pos c)) e))

-- one of the two parts is 0
pub one_part : (x : ℤ) → 0 < plus x → minus x ≡ 0
one_part (pos a) h = refl
one_part (negsuc a) h = absurd (omega arith)

pub no_minus : (x : ℤ) → minus x ≤ plus x → minus x ≡ 0
no_minus (pos x) h = refl
no_minus (negsuc x) h = absurd (omega arith)

plus_pick : (b : Bool) (x : ℤ) → plus (pick_ℤ b x) ≡ pick b (plus x)
plus_pick true x = refl
plus_pick false x = refl

minus_pick : (b : Bool) (x : ℤ) → minus (pick_ℤ b x) ≡ pick b (minus x)
minus_pick true x = refl
minus_pick false x = refl

-- a sum of shares under a test: that of the positive parts less that of the negative ones
pub less_sum : (n : ℕ) (g : ℕ → Bool) (f : ℕ → ℤ)
    → Less (sum_ℤ n (λ j. pick_ℤ (g j) (f j)))
    (sum₀ n (λ j. pick (g j) (plus (f j)))) (sum₀ n (λ j. pick (g j) (minus (f j))))
less_sum zero g f = record { is = refl }
less_sum (suc n) g f =
    omega (
      arith,
      less_add (sum_ℤ n (λ j. pick_ℤ (g j) (f j))) (pick_ℤ (g n) (f n)) (less_sum n g f) (less_parts (pick_ℤ (g n) (f n))),
      plus_pick (g n) (f n),
      minus_pick (g n) (f n),
    )

-- a sum of numbers none of which is negative
pub sum_pos_ℤ : (m : ℕ) (f : ℕ → ℤ) (x : ℕ → ℕ) → ((j : ℕ) → j < m → f j ≡ pos (x j)) → sum_ℤ m f ≡ pos (sum₀ m x)
sum_pos_ℤ zero f x h = refl
sum_pos_ℤ (suc m) f x h = ap₂ (λ (a b : ℤ). a +ℤ b) (sum_pos_ℤ m f x (λ j l. h j (omega arith))) (h m (omega arith))
