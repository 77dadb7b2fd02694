-- Those of a group with the smallest keys, where no two have the same key.
use Prim.Native.Nat.{ℕ, zero, suc, ◌+◌, ◌*◌, ◌≤◌, ◌<◌, min}
use mathlib.Core.Path.{◌≡◌, refl, sym, ap, ◌∙◌}
use mathlib.Core.Bool.{Bool, true, false, ◌&&◌}
use mathlib.Core.Logic.{⊎_elim}
use mathlib.Core.List.{List}
use native.Mathlib.Decide.{dec_lt, ℕ_discrete}
use native.Mathlib.Nat.{mul-le-mul_right}
use native.Mathlib.Omega.{arith}
use borrow.Author.Tests.{lt-ltb, le-ltb, eq-eqb, ne_eqb, eqb-true, ltb-true}
use lib.ListN.{get_or}
use lib.Dec.{eqb, ltb}
use Rattle.basics.specs.Sum.{pick, sum₀, size}
use Rattle.game.specs.ByArc.{ahead}
use Rattle.basics.proofs.Bools.{both, not_so, and_both, and_first, and_second, same_test, pick_yes, pick_no, pick_same}
use Rattle.basics.proofs.Bools.{pick_zero, pick_mono, pick_and}
use Rattle.basics.proofs.Sums.{sum₀_cong, sum₀_add, sum₀_zero, sum₀_mono, term₀_le}
use Rattle.basics.proofs.Sizes.{size_more, size_none, size_same}

-- no two of the numbers below n pass the test
size_one : (n : ℕ) (g : ℕ → Bool) → ((i j : ℕ) → i < j → j < n → g i ≡ true → g j ≡ true → ⊥) → size n g ≤ 1
size_one zero g apart = omega (arith, size_none 0 g (λ i h. absurd (omega arith)))
size_one (suc n) g apart =
    ⊎_elim
    (λ (e : g n ≡ true).
    omega (
      arith,
      size_more n g,
      pick_yes 1 e,
      size_none n g (λ i h. not_so (g i) (λ t. apart i n h (omega arith) t e)),
    ))
    (λ (e : g n ≡ false).
    omega (arith, size_more n g, pick_no 1 e, size_one n g (λ i j l h. apart i j l (omega arith))))
    (both (g n))

-- below the next number: below the number, or at it
next_number : (x t y : ℕ) → pick (ltb x (suc t)) y ≡ pick (ltb x t) y + pick (eqb x t) y
next_number x t y =
    elim (dec_lt x t) [
      | yes l ↦ omega (
        arith,
        pick_yes y (lt-ltb x (suc t) (omega arith)),
        pick_yes y (lt-ltb x t l),
        pick_no y (ne_eqb x t (λ e. absurd (omega arith))),
      )
      | no l ↦
          elim (ℕ_discrete x t) [
            | yes e ↦ omega (
              arith,
              pick_yes y (lt-ltb x (suc t) (omega arith)),
              pick_no y (le-ltb x t (omega arith)),
              pick_yes y (eq-eqb x t e),
            )
            | no e ↦ omega (
              arith,
              pick_no y (le-ltb x (suc t) (omega arith)),
              pick_no y (le-ltb x t (omega arith)),
              pick_no y (ne_eqb x t e),
            )
          ]
    ]

module _ (n : ℕ) (a : ℕ → Bool) (key : ℕ → ℕ) where
  -- how many of the group have a key below t
  abbrev pub below : ℕ → ℕ
  below t = size n (λ i. a i && ltb (key i) t)

  -- one of the group with key t adds x
  abbrev at : ℕ → ℕ → ℕ
  at t x = sum₀ n (λ i. pick (a i && eqb (key i) t) x)

  next_key : (t i x : ℕ)
      → pick (a i && ltb (key i) (suc t)) x ≡ pick (a i && ltb (key i) t) x + pick (a i && eqb (key i) t) x
  next_key t i x =
      ⊎_elim
      (λ (e : a i ≡ true). rw e (next_number (key i) t x))
      (λ (e : a i ≡ false). rw e)
      (both (a i))

  below_next : (t : ℕ) → below (suc t) ≡ below t + at t 1
  unfolding size
  below_next t =
      sum₀_cong n (λ i h. next_key t i 1)
      ∙ sum₀_add n (λ i. pick (a i && ltb (key i) t) 1) (λ i. pick (a i && eqb (key i) t) 1)

  never : (i : ℕ) → (a i && ltb (key i) 0) ≡ false
  never i =
      not_so (a i && ltb (key i) 0)
      (λ e. absurd (omega (arith, ltb-true (key i) 0 (and_second (a i) (ltb (key i) 0) e))))

  pub below_none : below 0 ≡ 0
  below_none = size_none n (λ i. a i && ltb (key i) 0) (λ i h. never i)

  low_key : (t i : ℕ) → key i < t → (a i && ltb (key i) t) ≡ a i
  low_key t i l =
      same_test (a i && ltb (key i) t) (a i) (and_first (a i) (ltb (key i) t)) (λ e. and_both e (lt-ltb (key i) t l))

  -- a bound above all keys
  pub below_all : (t : ℕ) → ((i : ℕ) → i < n → key i < t) → below t ≡ size n a
  below_all t high = size_same n (λ i. a i && ltb (key i) t) a (λ i h. low_key t i (high i h))

  -- a larger bound has as many below it, or more
  pub below_mono : (s t : ℕ) → s ≤ t → below s ≤ below t
  unfolding size
  below_mono s t h =
      sum₀_mono n
      (λ i l.
      pick_mono (a i && ltb (key i) s) (a i && ltb (key i) t) 1
      (λ e. and_both (and_first (a i) _ e)
      (lt-ltb (key i) t (omega (arith, ltb-true (key i) s (and_second (a i) _ e))))))

  -- one of the group is below the bound after its key, and not below its key
  pub below_own : (j : ℕ) → j < n → a j ≡ true → below (key j) < below (suc (key j))
  below_own j h e =
      omega (
        arith,
        below_next (key j),
        term₀_le n j (λ i. pick (a i && eqb (key i) (key j)) 1) h,
        pick_yes 1 (and_both e (eq-eqb (key j) (key j) refl)),
      )

  module _ (apart : (i j : ℕ) → i < j → j < n → key i ≡ key j → ⊥) where
    -- at most one has key t
    single : (t : ℕ) → at t 1 ≤ 1
    unfolding size
    single t =
        size_one n (λ i. a i && eqb (key i) t)
        (λ i j l h ei ej.
        apart i j l h
        (eqb-true (key i) t (and_second (a i) _ ei) ∙ sym (eqb-true (key j) t (and_second (a j) _ ej))))

    pub below_step : (t : ℕ) → below (suc t) ≤ below t + 1
    below_step t = omega (arith, below_next t, single t)

    -- one unit to each of the r with the smallest keys, as far as their keys are below t
    first_sum : (r t : ℕ)
        → sum₀ n (λ i. pick (a i && ltb (key i) t) (pick (ltb (below (key i)) r) 1)) ≡ min (below t) r
    first_sum r zero =
        sum₀_zero n (λ i h. pick_no (pick (ltb (below (key i)) r) 1) (never i)) ∙ omega (arith, below_none)
    first_sum r (suc t) =
        sum₀_cong n (λ i h. next_key t i (pick (ltb (below (key i)) r) 1))
        ∙ sum₀_add n (λ i. pick (a i && ltb (key i) t) (pick (ltb (below (key i)) r) 1))
        (λ i. pick (a i && eqb (key i) t) (pick (ltb (below (key i)) r) 1))
        ∙ elim (dec_lt (below t) r) [
          | yes l ↦ omega (
            arith,
            first_sum r t,
            below_next t,
            single t,
            at_key ∙ ap (at t) (pick_yes 1 (lt-ltb (below t) r l)),
          )
          | no l ↦ omega (
            arith,
            first_sum r t,
            below_next t,
            at_key ∙ ap (at t) (pick_no 1 (le-ltb (below t) r (omega arith)))
                ∙ sum₀_zero n (λ i h. pick_zero (a i && eqb (key i) t)),
          )
        ]
      where
        at_key : sum₀ n (λ i. pick (a i && eqb (key i) t) (pick (ltb (below (key i)) r) 1))
            ≡ at t (pick (ltb (below t) r) 1)
        at_key =
            sum₀_cong n
            (λ i h.
            pick_same (a i && eqb (key i) t)
            (λ e. ap (λ (x : ℕ). pick (ltb (below x) r) 1) (eqb-true (key i) t (and_second (a i) _ e))))

    -- as many as there are units get one, and no more than there are in the group
    pub first_size : (r : ℕ) → size n (λ j. a j && ltb (below (key j)) r) ≡ min (size n a) r
    unfolding size
    first_size r =
        let most = suc (sum₀ n key) in
        let high : (i : ℕ) → i < n → key i < most = λ i h. omega (arith, term₀_le n i key h) in
        sum₀_cong n
        (λ i h.
        pick_and (a i) (ltb (below (key i)) r) 1
        ∙ ap (λ (b : Bool). pick b (pick (ltb (below (key i)) r) 1)) (sym (low_key most i (high i h))))
        ∙ first_sum r most
        ∙ ap (λ (x : ℕ). min x r) (below_all most high)

-- a member's key by its tally and number, with room for the numbers below b
abbrev pub key_of : ℕ → List ℕ → ℕ → ℕ
key_of b tallies j = get_or tallies j 0 * b + j

module _ (b : ℕ) (tallies : List ℕ) where
  -- a smaller tally has the smaller key
  tally_first : (i j : ℕ) → i < b → get_or tallies i 0 < get_or tallies j 0 → key_of b tallies i < key_of b tallies j
  tally_first i j h l = omega (arith, mul-le-mul_right b l)

  tally_same : (i j : ℕ) → get_or tallies i 0 ≡ get_or tallies j 0 → get_or tallies i 0 * b ≡ get_or tallies j 0 * b
  tally_same i j e = ap (λ (x : ℕ). x * b) e

  pub keys_apart : (i j : ℕ) → i < j → j < b → key_of b tallies i ≡ key_of b tallies j → ⊥
  keys_apart i j l h e =
      elim (dec_lt (get_or tallies i 0) (get_or tallies j 0)) [
        | yes less ↦ omega (arith, tally_first i j (omega arith) less)
        | no less ↦
            elim (dec_lt (get_or tallies j 0) (get_or tallies i 0)) [
              | yes more ↦ omega (arith, tally_first j i h more)
              | no more ↦ omega (arith, tally_same i j (omega arith))
            ]
      ]

  -- who is ahead has the smaller key
  pub ahead_key : (i j : ℕ) → i < b → j < b → ahead tallies i j ≡ ltb (key_of b tallies i) (key_of b tallies j)
  ahead_key i j hi hj =
      elim (dec_lt (get_or tallies i 0) (get_or tallies j 0)) [
        | yes less ↦
            rw (lt-ltb (get_or tallies i 0) (get_or tallies j 0) less)
            (sym (lt-ltb (key_of b tallies i) (key_of b tallies j) (tally_first i j hi less)))
        | no less ↦
            rw (le-ltb (get_or tallies i 0) (get_or tallies j 0) (omega arith))
            (elim (ℕ_discrete (get_or tallies i 0) (get_or tallies j 0)) [
              | yes e ↦ rw (eq-eqb (get_or tallies i 0) (get_or tallies j 0) e) (by_number e)
              | no e ↦
                  rw (ne_eqb (get_or tallies i 0) (get_or tallies j 0) e)
                  (sym
                  (le-ltb (key_of b tallies i) (key_of b tallies j) (omega (arith, tally_first j i hj (omega arith)))))
            ])
      ]
    where
      by_number : get_or tallies i 0 ≡ get_or tallies j 0 → ltb i j ≡ ltb (key_of b tallies i) (key_of b tallies j)
      by_number e =
          same_test (ltb i j) (ltb (key_of b tallies i) (key_of b tallies j))
          (λ t. lt-ltb (key_of b tallies i) (key_of b tallies j) (omega (arith, tally_same i j e, ltb-true i j t)))
          (λ t. lt-ltb i j (omega (arith, tally_same i j e, ltb-true (key_of b tallies i) (key_of b tallies j) t)))
