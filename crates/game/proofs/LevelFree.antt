-- The level rule where caps stop nobody: every cap is at least the number of all units.
use Prim.Native.Nat.{ℕ, zero, suc, ◌+◌, ◌≤◌, ◌<◌}
use mathlib.Core.Path.{◌≡◌, refl, sym, ap, ◌∙◌, subst}
use mathlib.Core.Bool.{Bool, cond, ◌&&◌}
use mathlib.Core.List.{List}
use native.Mathlib.Decide.{dec_lt, ℕ_discrete}
use native.Mathlib.Omega.{arith}
use borrow.Author.Tests.{lt-ltb}
use lib.ListN.{length, get_or, set, replicate, length-set, get_or-eq_default}
use lib.Seq.{get_or-set_same, get_or-set_other}
use lib.Dec.{ltb}
use Rattle.basics.specs.Sum.{sum}
use Rattle.game.specs.Network.{Network, member_count}
use Rattle.game.specs.Core.{users}
use Rattle.game.specs.Level.{or_keep, first_least, may_take, with_one_more, unit, units, arcs_down, level}
use Rattle.game.proofs.Encoding.{zeros}

or_keep_same : (may other : ℕ → Bool) (x : ℕ → ℕ) (j c : ℕ) → may j ≡ other j → or_keep may x j c ≡ or_keep other x j c
or_keep_same may other x j zero e = ap (λ (b : Bool). cond b (suc j) 0) e
or_keep_same may other x j (suc i) e = ap (λ (b : Bool). cond (b && ltb (x j) (x i)) (suc j) (suc i)) e

-- the choice depends on the test at the members alone
first_same : (may other : ℕ → Bool) (x : ℕ → ℕ) (m : ℕ) → ((j : ℕ) → j < m → may j ≡ other j)
    → first_least may x m ≡ first_least other x m
unfolding first_least
first_same may other x zero same = refl
first_same may other x (suc j) same =
    or_keep_same may other x j (first_least may x j) (same j (omega arith))
    ∙ ap (or_keep other x j) (first_same may other x j (λ i h. same i (omega arith)))

-- no share is above s
abbrev UpTo : ℕ → List ℕ → Type 0
UpTo s l = (j : ℕ) → get_or l j 0 ≤ s

-- one unit more
one_more_up : (s c : ℕ) (l : List ℕ) → UpTo s l → UpTo (suc s) (with_one_more l c)
one_more_up s zero l up j = omega (arith, up j)
one_more_up s (suc i) l up j =
    elim (ℕ_discrete j i) [
      | yes e ↦ subst (λ (k : ℕ). get_or (set l i (get_or l i 0 + 1)) k 0 ≤ suc s) (sym e) here
      | no e ↦ omega (arith, get_or-set_other l i j (get_or l i 0 + 1) 0 e, up j)
    ]
  where
    here : get_or (set l i (get_or l i 0 + 1)) i 0 ≤ suc s
    here =
        elim (dec_lt i (length l)) [
          | yes h ↦ omega (arith, get_or-set_same l i (get_or l i 0 + 1) 0 h, up i)
          | no h ↦
              omega (
                arith,
                get_or-eq_default (set l i (get_or l i 0 + 1)) 0 {n = i}
                    (omega (arith, length-set l i (get_or l i 0 + 1))),
              )
        ]

module _ (n : Network) (caps other : List ℕ) (all : ℕ)
    (ample : (j : ℕ) → j < member_count n → (all ≤ get_or caps j 0) × (all ≤ get_or other j 0)) where
  -- as long as fewer units are given out, every user may take one
  unit_same : (k s : ℕ) (l : List ℕ) → UpTo s l → s < all → unit n caps k l ≡ unit n other k l
  unit_same k s l up h =
      ap (with_one_more l)
      (first_same (may_take n caps k l) (may_take n other k l) (λ j. get_or l j 0) (member_count n)
      (λ j m.
      ap (λ (b : Bool). users n k j && b)
      (lt-ltb (get_or l j 0) (get_or caps j 0) (omega (arith, up j, (ample j m).0))
      ∙ sym (lt-ltb (get_or l j 0) (get_or other j 0) (omega (arith, up j, (ample j m).1))))))

  units_up : (k t s : ℕ) (l : List ℕ) → UpTo s l → UpTo (s + t) (units n caps k t l)
  unfolding units
  units_up k zero s l up j = omega (arith, up j)
  units_up k (suc t) s l up j =
      let so_far = units n caps k t l in
      omega (
        arith,
        one_more_up (s + t) (first_least (may_take n caps k so_far) (λ i. get_or so_far i 0) (member_count n)) so_far
            (units_up k t s l up) j,
      )

  units_same : (k t s : ℕ) (l : List ℕ) → UpTo s l → s + t ≤ all → units n caps k t l ≡ units n other k t l
  unfolding units
  units_same k zero s l up h = refl
  units_same k (suc t) s l up h =
      unit_same k (s + t) (units n caps k t l) (units_up k t s l up) (omega arith)
      ∙ ap (unit n other k) (units_same k t s l up (omega arith))

  arcs_same : (amount : ℕ → ℕ) (k s : ℕ) (l : List ℕ) → UpTo s l → s + sum k amount ≤ all
      → arcs_down n caps amount k l ≡ arcs_down n other amount k l
  unfolding arcs_down
  arcs_same amount zero s l up h = refl
  arcs_same amount (suc k) s l up h =
      arcs_same amount k (s + amount (suc k)) (units n caps (suc k) (amount (suc k)) l)
      (units_up (suc k) (amount (suc k)) s l up) (omega arith)
      ∙ ap (arcs_down n other amount k) (units_same (suc k) (amount (suc k)) s l up (omega arith))

  -- whatever such caps are, the list is the same
  pub level_free : (amount : ℕ → ℕ) → sum n.arcs amount ≤ all → level n caps amount ≡ level n other amount
  level_free amount h =
      arcs_same amount n.arcs 0 (replicate (member_count n) 0) (λ j. omega (arith, zeros (member_count n) j))
      (omega arith)
