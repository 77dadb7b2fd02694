-- One unit more at one vertex, or several: sums over subtrees, and squares.
use Prim.Native.Nat.{ℕ, ◌+◌, ◌-◌, ◌*◌, ◌<◌}
use mathlib.Core.Path.{◌≡◌, refl, ap, ◌∙◌}
use mathlib.Core.Bool.{Bool, true, false}
use mathlib.Core.Logic.{⊎_elim}
use native.Mathlib.Omega.{arith}
use borrow.Author.Tests.{eqb-true, eq-eqb}
use lib.Dec.{eqb}
use Rattle.basics.specs.Sum.{pick, sum}
use Rattle.game.specs.Network.{Network, at_or_below, sum_below}
use Rattle.basics.proofs.Bools.{both, eqb_comm, pick_add, pick_same, pick_swap}
use Rattle.basics.proofs.Sums.{In, sum_cong, sum_add, sum_at}

-- one unit more for i
abbrev pub bump : (ℕ → ℕ) → ℕ → ℕ → ℕ
bump x i v = x v + pick (eqb v i) 1

-- the sum of squares
abbrev pub squares : ℕ → (ℕ → ℕ) → ℕ
squares m x = sum m (λ v. x v * x v)

sum_here : (m i : ℕ) (f : ℕ → ℕ) → In m i → sum m (λ v. pick (eqb v i) (f v)) ≡ f i
sum_here m i f k = sum_cong m (λ v j. ap (λ (b : Bool). pick b (f v)) (eqb_comm v i)) ∙ sum_at m i f k

-- d more at one vertex
pub sum_more : (m : ℕ) (x : ℕ → ℕ) (i d : ℕ) → In m i → sum m (λ v. x v + pick (eqb v i) d) ≡ sum m x + d
sum_more m x i d k =
    sum_add m x (λ v. pick (eqb v i) d) ∙ ap (λ (y : ℕ). sum m x + y) (sum_here m i (λ v. d) k)

pub below_more : (n : Network) (x : ℕ → ℕ) (i d f : ℕ) → In n.arcs i
    → sum_below n (λ v. x v + pick (eqb v i) d) f ≡ sum_below n x f + pick (at_or_below n f i) d
unfolding sum_below
below_more n x i d f k =
    sum_cong n.arcs
    (λ v j. pick_add (at_or_below n f v) (x v) (pick (eqb v i) d)
    ∙ ap (λ (y : ℕ). pick (at_or_below n f v) (x v) + y) (pick_swap (at_or_below n f v) (eqb v i) d))
    ∙ sum_add n.arcs (λ v. pick (at_or_below n f v) (x v)) (λ v. pick (eqb v i) (pick (at_or_below n f v) d))
    ∙ ap (λ (y : ℕ). sum n.arcs (λ v. pick (at_or_below n f v) (x v)) + y)
    (sum_here n.arcs i (λ v. pick (at_or_below n f v) d) k)

pub below_bump : (n : Network) (x : ℕ → ℕ) (i f : ℕ) → In n.arcs i
    → sum_below n (bump x i) f ≡ sum_below n x f + pick (at_or_below n f i) 1
below_bump n x i f k = below_more n x i 1 f k

square_bump : (b : Bool) (x : ℕ) → (x + pick b 1) * (x + pick b 1) ≡ x * x + pick b (2 * x + 1)
square_bump true x = omega arith
square_bump false x = omega arith

pub squares_bump : (m : ℕ) (x : ℕ → ℕ) (i : ℕ) → In m i → squares m (bump x i) ≡ squares m x + (2 * x i + 1)
squares_bump m x i k =
    sum_cong m (λ v j. square_bump (eqb v i) (x v))
    ∙ sum_add m (λ v. x v * x v) (λ v. pick (eqb v i) (2 * x v + 1))
    ∙ ap (λ (y : ℕ). squares m x + y) (sum_here m i (λ v. 2 * x v + 1) k)

-- one unit less at j
abbrev pub less_one : (ℕ → ℕ) → ℕ → ℕ → ℕ
less_one y j v = y v - pick (eqb v j) 1

pub bump_less : (y : ℕ → ℕ) (j : ℕ) → 0 < y j → (v : ℕ) → bump (less_one y j) j v ≡ y v
bump_less y j h v =
    ⊎_elim
    (λ (e : eqb v j ≡ true). rw e (omega (arith, ap y (eqb-true v j e))))
    (λ (e : eqb v j ≡ false). rw e (omega arith))
    (both (eqb v j))

pub less_at : (y : ℕ → ℕ) (j : ℕ) → less_one y j j ≡ y j - 1
less_at y j = ap (λ (b : Bool). y j - pick b 1) (eq-eqb j j refl)

-- sums of what is the same at or below f
pub below_same : (n : Network) (f : ℕ) {x y : ℕ → ℕ}
    → ((v : ℕ) → In n.arcs v → at_or_below n f v ≡ true → x v ≡ y v)
    → sum_below n x f ≡ sum_below n y f
unfolding sum_below
below_same n f same = sum_cong n.arcs (λ v i. pick_same (at_or_below n f v) (same v i))

pub below_cong : (n : Network) (x y : ℕ → ℕ) (f : ℕ) → ((v : ℕ) → In n.arcs v → x v ≡ y v)
    → sum_below n x f ≡ sum_below n y f
below_cong n x y f e = below_same n f (λ v i b. e v i)

pub squares_cong : (m : ℕ) (x y : ℕ → ℕ) → ((v : ℕ) → x v ≡ y v) → squares m x ≡ squares m y
squares_cong m x y e = sum_cong m (λ v i. ap (λ (z : ℕ). z * z) (e v))
