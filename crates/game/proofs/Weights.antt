-- The weights of the groups that hold none of k given members add up to n! / k.
use Prim.Native.Nat.{ℕ, zero, suc, pred, ◌+◌, ◌*◌, ◌-◌, ◌<◌}
use mathlib.Core.Path.{◌≡◌, sym, ap, ap₂, ◌∙◌}
use mathlib.Core.Bool.{Bool, true, false, not, ◌||◌}
use mathlib.Core.Logic.{⊎_elim}
use mathlib.Core.List.{List, ◌∷◌}
use native.Mathlib.Nat.{add-zero, zero-add, add-suc, suc-add, mul-pos, zero-lt-suc, eq_of_mul-eq-mul_left}
use native.Mathlib.Omega.{arith}
use Rattle.basics.specs.Sum.{pick, size}
use Rattle.game.specs.Search.{groups, is_in}
use Rattle.game.specs.Shapley.{factorial, over_all, weight}
use Rattle.basics.proofs.Bools.{both, pick_yes, pick_no}
use Rattle.basics.proofs.Sizes.{size_first, size_none}
use Rattle.game.proofs.Meets.{meets, meets_first}
use Rattle.game.proofs.GroupSums.{over_first, over_cong, over_zero}

-- the weight of a group with none of a, where p numbers more are in it and q numbers more are not; 0 of any other group
avoiding : ℕ → (ℕ → Bool) → ℕ → ℕ → List Bool → ℕ
avoiding n a p q g =
    pick (not (meets n (is_in g) a)) (factorial (size n (is_in g) + p) * factorial (n + q - size n (is_in g) - 1))

-- over all groups
total : ℕ → (ℕ → Bool) → ℕ → ℕ → ℕ
total n a p q = over_all (avoiding n a p q) (groups n)

-- the first number apart: it is in the group or not, and in a or not
module _ (n : ℕ) (a : ℕ → Bool) (p q : ℕ) where
  abbrev later : ℕ → Bool
  later j = a (suc j)

  first_out : (g : List Bool) → avoiding (suc n) a p q (false ∷ g) ≡ avoiding n later p (suc q) g
  unfolding avoiding
  first_out g =
      let s = size_first n (is_in (false ∷ g)) in
      ap₂ (λ (b : Bool) (x : ℕ). pick (not b) x) (meets_first n (is_in (false ∷ g)) a)
      (ap₂ (λ (x y : ℕ). factorial x * factorial y) (omega arith) (omega arith))

  first_in : a 0 ≡ false → (g : List Bool) → avoiding (suc n) a p q (true ∷ g) ≡ avoiding n later (suc p) q g
  unfolding avoiding
  first_in e g =
      let s = size_first n (is_in (true ∷ g)) in
      ap₂ (λ (b : Bool) (x : ℕ). pick (not b) x)
      (meets_first n (is_in (true ∷ g)) a ∙ ap (λ (b : Bool). b || meets n (is_in g) later) e)
      (ap₂ (λ (x y : ℕ). factorial x * factorial y) (omega arith) (omega arith))

  first_held : a 0 ≡ true → (g : List Bool) → avoiding (suc n) a p q (true ∷ g) ≡ 0
  unfolding avoiding
  first_held e g =
      pick_no
      (factorial (size (suc n) (is_in (true ∷ g)) + p) * factorial
      (suc n + q - size (suc n) (is_in (true ∷ g)) - 1))
      (ap not (meets_first n (is_in (true ∷ g)) a ∙ ap (λ (b : Bool). b || meets n (is_in g) later) e))

  total_free : a 0 ≡ false → total (suc n) a p q ≡ total n later p (suc q) + total n later (suc p) q
  unfolding total
  total_free e =
      over_first (avoiding (suc n) a p q) n
      ∙ ap₂ (λ (x y : ℕ). x + y) (over_cong (groups n) first_out) (over_cong (groups n) (first_in e))

  total_held : a 0 ≡ true → total (suc n) a p q ≡ total n later p (suc q)
  unfolding total
  total_held e =
      over_first (avoiding (suc n) a p q) n
      ∙ ap₂ (λ (x y : ℕ). x + y) (over_cong (groups n) first_out)
      (over_cong (groups n) (first_held e) ∙ over_zero (groups n))
      ∙ add-zero (over_all (avoiding n later p (suc q)) (groups n))

pub factorial_pos : (n : ℕ) → 0 < factorial n
unfolding factorial
factorial_pos zero = omega arith
factorial_pos (suc n) = mul-pos (zero-lt-suc n) (factorial_pos n)

-- x and y are the sums over the groups without and with a first number, which is not in a
two_sums : (p m f x y fp fm r : ℕ) → suc (suc (p + m)) * f * x ≡ fp * (suc m * fm) * r
    → suc (suc (p + m)) * f * y ≡ suc p * fp * fm * r
    → f * (x + y) ≡ fp * fm * r
two_sums p m f x y fp fm r hx hy =
    eq_of_mul-eq-mul_left (suc (suc (p + m))) (zero-lt-suc (suc (p + m))) (f * (x + y)) (fp * fm * r) (omega arith)

total_none : (a : ℕ → Bool) (p m : ℕ) → total 0 a p (suc m) ≡ factorial p * factorial m
unfolding size total avoiding meets groups over_all
total_none a p m =
    add-zero (factorial (0 + p) * factorial (0 + suc m - 0 - 1))
    ∙ ap₂ (λ (x y : ℕ). factorial x * factorial y) (omega arith) (omega arith)

-- suc m is the number of the numbers in a and of the q more
total_is : (n : ℕ) (a : ℕ → Bool) (p q m : ℕ) → size n a + q ≡ suc m
    → factorial (suc (p + m)) * total n a p q ≡ factorial p * factorial m * factorial (n + p + q)
unfolding factorial
total_is zero a p q m h =
    let e : q ≡ suc m = omega (arith, size_none 0 a (λ i l. absurd (omega arith))) in
    rw (e, total_none, zero-add, add-suc) (omega arith)
total_is (suc n) a p q m h =
    let out : n + p + suc q ≡ suc n + p + q = omega arith in
    let within : n + suc p + q ≡ suc n + p + q = omega arith in
    ⊎_elim
    (λ (e : a 0 ≡ true).
    ap (λ (t : ℕ). factorial (suc (p + m)) * t) (total_held n a p q e)
    ∙ total_is n later p (suc q) m (omega (arith, size_first n a, pick_yes 1 e))
    ∙ ap (λ (k : ℕ). factorial p * factorial m * factorial k) out)
    (λ (e : a 0 ≡ false).
    ap (λ (t : ℕ). factorial (suc (p + m)) * t) (total_free n a p q e)
    ∙ two_sums p m (factorial (suc (p + m))) (total n later p (suc q)) (total n later (suc p) q) (factorial p)
    (factorial m) (factorial (suc n + p + q))
    (ap (λ (k : ℕ). factorial (suc k) * total n later p (suc q)) (sym (add-suc p m))
    ∙ total_is n later p (suc q) (suc m) (omega (arith, size_first n a, pick_no 1 e))
    ∙ ap (λ (k : ℕ). factorial p * factorial (suc m) * factorial k) out)
    (ap (λ (k : ℕ). factorial (suc k) * total n later (suc p) q) (sym (suc-add p m))
    ∙ total_is n later (suc p) q m (omega (arith, size_first n a, pick_no 1 e))
    ∙ ap (λ (k : ℕ). factorial (suc p) * factorial m * factorial k) within))
    (both (a 0))
  where
    later : ℕ → Bool
    later j = a (suc j)

-- the sum of the weights of the groups with none of a
unfoldable pub weights_avoiding : ℕ → (ℕ → Bool) → ℕ
weights_avoiding n a = over_all (λ g. pick (not (meets n (is_in g) a)) (weight n (is_in g))) (groups n)

not_moved : (n : ℕ) (a : ℕ → Bool) → total n a 0 0 ≡ weights_avoiding n a
unfolding total avoiding weights_avoiding
not_moved n a =
    over_cong (groups n)
    (λ g.
    ap (pick (not (meets n (is_in g) a)))
    (ap₂ (λ (x y : ℕ). factorial x * factorial (y - size n (is_in g) - 1)) (add-zero (size n (is_in g))) (add-zero n)))

pub weights_sum : (n : ℕ) (a : ℕ → Bool) → 0 < size n a → size n a * weights_avoiding n a ≡ factorial n
unfolding factorial
weights_sum n a h = whole (pred (size n a)) (omega arith)
  where
    whole : (m : ℕ) → size n a ≡ suc m → size n a * weights_avoiding n a ≡ factorial n
    whole m e =
        let t = rw (zero-add, add-zero, add-zero, not_moved) at (total_is n a 0 0 m (omega arith)) in
        eq_of_mul-eq-mul_left (factorial m) (factorial_pos m) (size n a * weights_avoiding n a) (factorial n)
        (rw e (omega arith))
