-- Laws of tests, and of the amount that a test picks.
--
--   both, clash, not_so             a test is true or false, not both
--   and_both, and_first, or_cases   `&&` and `||` taken apart and put together
--   same_test                       two tests that imply one another are equal
--   pick_yes, pick_no               a pick whose test is known
--   pick_add, pick_parts            a pick of a sum; a test and its negation
--   pick_and, pick_either           a pick by two tests
--   pick_same, pick_ordered         amounts equal, or ordered, where the test holds
--   pick_mono, pick_le              ordered picks
--   smaller_is                      the smaller of two numbers
use Prim.Native.Nat.{ℕ, ◌+◌, ◌-◌, ◌≤◌, ◌<◌, zero-le}
use mathlib.Core.Path.{◌≡◌, refl, sym, ◌∙◌}
use mathlib.Core.Bool.{Bool, true, false, not, ◌&&◌, ◌||◌, true≢false, false≢true}
use mathlib.Core.Logic.{◌⊎◌, inl, inr, ⊎_elim}
use native.Mathlib.Nat.{le_refl}
use native.Mathlib.Omega.{arith}
use borrow.Author.Tests.{eqb-true, eq-eqb, ltb-true, ltb-false}
use lib.Dec.{eqb, ltb}
use Rattle.basics.specs.Sum.{pick, smaller}

pub both : (b : Bool) → (b ≡ true) ⊎ (b ≡ false)
both true = inl refl
both false = inr refl

pub clash : {b : Bool} → b ≡ true → b ≡ false → ⊥
clash t f = true≢false (sym t ∙ f)

pub not_so : (b : Bool) → (b ≡ true → ⊥) → b ≡ false
not_so true h = absurd (h refl)
not_so false h = refl

pub and_both : {a b : Bool} → a ≡ true → b ≡ true → (a && b) ≡ true
and_both p q = rw (p, q)

pub and_first : (a b : Bool) → (a && b) ≡ true → a ≡ true
and_first true b e = refl
and_first false b e = e

pub and_second : (a b : Bool) → (a && b) ≡ true → b ≡ true
and_second true b e = e
and_second false b e = absurd (false≢true e)

pub or_first : {a : Bool} (b : Bool) → a ≡ true → (a || b) ≡ true
or_first b e = rw e

pub or_second : (a : Bool) {b : Bool} → b ≡ true → (a || b) ≡ true
or_second true e = refl
or_second false e = e

pub or_cases : (a b : Bool) → (a || b) ≡ true → (a ≡ true) ⊎ (b ≡ true)
or_cases true b e = inl refl
or_cases false b e = inr e

pub neither_first : (a b : Bool) → (a || b) ≡ false → a ≡ false
neither_first true b e = e
neither_first false b e = refl

pub neither_second : (a b : Bool) → (a || b) ≡ false → b ≡ false
neither_second true b e = absurd (true≢false e)
neither_second false b e = e

-- two tests that hold together are equal
pub same_test : (a b : Bool) → (a ≡ true → b ≡ true) → (b ≡ true → a ≡ true) → a ≡ b
same_test true b f g = sym (f refl)
same_test false true f g = g refl
same_test false false f g = refl

pub eqb_comm : (a b : ℕ) → eqb a b ≡ eqb b a
eqb_comm a b =
    same_test (eqb a b) (eqb b a) (λ h. eq-eqb b a (sym (eqb-true a b h))) (λ h. eq-eqb a b (sym (eqb-true b a h)))

pub pick_add : (b : Bool) (x y : ℕ) → pick b (x + y) ≡ pick b x + pick b y
pick_add true x y = refl
pick_add false x y = refl

-- what a test picks and what it leaves
pub pick_parts : (b : Bool) (x : ℕ) → pick b x + pick (not b) x ≡ x
pick_parts true x = omega arith
pick_parts false x = omega arith

pub pick_zero : (b : Bool) → pick b 0 ≡ 0
pick_zero true = refl
pick_zero false = refl

pub pick_swap : (a b : Bool) (x : ℕ) → pick a (pick b x) ≡ pick b (pick a x)
pick_swap true b x = refl
pick_swap false b x = sym (pick_zero b)

pub pick_and : (a b : Bool) (x : ℕ) → pick (a && b) x ≡ pick a (pick b x)
pick_and true b x = refl
pick_and false b x = refl

-- of two tests that never hold together, either one
pub pick_either : (a b : Bool) (x : ℕ) → (a ≡ true → b ≡ true → ⊥) → pick (a || b) x ≡ pick a x + pick b x
pick_either true true x apart = absurd (apart refl refl)
pick_either true false x apart = omega arith
pick_either false b x apart = omega arith

pub pick_yes : {b : Bool} (x : ℕ) → b ≡ true → pick b x ≡ x
pick_yes x e = rw e

pub pick_no : {b : Bool} (x : ℕ) → b ≡ false → pick b x ≡ 0
pick_no x e = rw e

-- amounts that are equal where the test holds
pub pick_same : (b : Bool) {x y : ℕ} → (b ≡ true → x ≡ y) → pick b x ≡ pick b y
pick_same true h = h refl
pick_same false h = refl

pub pick_le : (b : Bool) (x : ℕ) → pick b x ≤ x
pick_le true x = le_refl x
pick_le false x = zero-le

pub pick_pos : (b : Bool) (x : ℕ) → 0 < pick b x → (b ≡ true) × (0 < x)
pick_pos true x h = (refl, h)
pick_pos false x h = absurd (omega arith)

-- amounts ordered where the test holds
pub pick_ordered : (b : Bool) {x y : ℕ} → (b ≡ true → x ≤ y) → pick b x ≤ pick b y
pick_ordered true h = h refl
pick_ordered false h = le_refl 0

pub pick_both_le : (b : Bool) {x y : ℕ} → x ≤ y → pick b x ≤ pick b y
pick_both_le b h = pick_ordered b (λ t. h)

pub pick_mono : (a b : Bool) (x : ℕ) → (a ≡ true → b ≡ true) → pick a x ≤ pick b x
pick_mono true b x f = rw (f refl) (le_refl x)
pick_mono false b x f = zero-le

-- where b holds both c and d do, and where a holds one of them does
pub pick_two : (a b c d : Bool) (x : ℕ) → (b ≡ true → c ≡ true) → (b ≡ true → d ≡ true)
    → (a ≡ true → (c ≡ true) ⊎ (d ≡ true))
    → pick a x + pick b x ≤ pick c x + pick d x
pick_two a true c d x bc bd acd = rw (bc refl, bd refl) (omega (arith, pick_le a x))
pick_two true false c d x bc bd acd =
    ⊎_elim (λ (e : c ≡ true). rw e (omega arith)) (λ (e : d ≡ true). rw e (omega arith)) (acd refl)
pick_two false false c d x bc bd acd = omega arith

-- the smaller of two numbers as a difference
pub smaller_is : (a b : ℕ) → smaller a b ≡ a - (a - b)
smaller_is a b =
    ⊎_elim
    (λ (e : ltb a b ≡ true). rw e (omega (arith, ltb-true a b e)))
    (λ (e : ltb a b ≡ false). rw e (omega (arith, ltb-false a b e)))
    (both (ltb a b))
