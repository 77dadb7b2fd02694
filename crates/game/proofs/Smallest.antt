-- The rule's choice: of those that pass the test one with the smallest x, the lowest number of these, where there is one.
use Prim.Native.Nat.{ℕ, zero, suc, pred, ◌≤◌, ◌<◌}
use mathlib.Core.Path.{◌≡◌, refl, sym, ap, ◌∙◌}
use mathlib.Core.Bool.{Bool, true, false, ◌&&◌}
use mathlib.Core.Logic.{⊎_elim}
use native.Mathlib.Decide.{dec_lt, ℕ_discrete}
use native.Mathlib.Omega.{arith}
use borrow.Author.Tests.{ltb-true, ltb-false, lt-ltb}
use lib.Dec.{ltb}
use Rattle.game.specs.Level.{or_keep, first_least}
use Rattle.basics.proofs.Bools.{both, clash, not_so, and_both, and_first, and_second}

module _ (may : ℕ → Bool) (x : ℕ → ℕ) where
  -- c is the best of the numbers below v, or 0 where none of them passes
  pub record Least (v c : ℕ) : Type 0 where
    pub is_one : (c ≡ 0 → ⊥) → (pred c < v) × (may (pred c) ≡ true)
    pub is_least : (u : ℕ) → u < v → may u ≡ true → (c ≡ 0 → ⊥) × (x (pred c) ≤ x u)
    pub is_lowest : (u : ℕ) → u < pred c → may u ≡ true → x (pred c) < x u

  -- v is the best of the numbers up to v
  taken : (v : ℕ) → may v ≡ true → ((u : ℕ) → u < v → may u ≡ true → x v < x u) → Least (suc v) (suc v)
  taken v e before =
      record {
        is_one = λ h. (omega arith, e);
        is_least = λ u i m. (
          λ z. omega arith,
          elim (dec_lt u v) [ yes j ↦ omega (arith, before u j m) | no j ↦ here u (omega arith) ],
        );
        is_lowest = before;
      }
    where
      here : (u : ℕ) → u ≡ v → x v ≤ x u
      here u d = omega (arith, ap x d)

  -- the best of the numbers below v stays
  kept : (v c : ℕ) → Least v c → (may v ≡ true → (c ≡ 0 → ⊥) × (x (pred c) ≤ x v)) → Least (suc v) c
  kept v c l last =
      record {
        is_one = λ h. (omega (arith, (l.is_one h).0), (l.is_one h).1);
        is_least = λ u i m. elim (dec_lt u v) [ yes j ↦ l.is_least u j m | no j ↦ here u m (omega arith) ];
        is_lowest = l.is_lowest;
      }
    where
      here : (u : ℕ) → may u ≡ true → u ≡ v → (c ≡ 0 → ⊥) × (x (pred c) ≤ x u)
      here u m d = let b = last (sym (ap may d) ∙ m) in (b.0, omega (arith, b.1, ap x d))

  -- one number more
  least_more : (v c : ℕ) → Least v c → Least (suc v) (or_keep may x v c)
  least_more v zero l =
      ⊎_elim
      (λ (e : may v ≡ true). rw e (taken v e (λ u j m. absurd ((l.is_least u j m).0 refl))))
      (λ (e : may v ≡ false). rw e (kept v 0 l (λ m. absurd (clash m e))))
      (both (may v))
  least_more v (suc i) l =
      ⊎_elim
      (λ (e : (may v && beats) ≡ true).
      rw e
      (taken v (and_first (may v) beats e)
      (λ u j m. omega (arith, ltb-true (x v) (x i) (and_second (may v) beats e), (l.is_least u j m).1))))
      (λ (e : (may v && beats) ≡ false).
      rw e (kept v (suc i) l (λ m. (λ z. omega arith, ltb-false (x v) (x i) (rw m at e)))))
      (both (may v && beats))
    where
      beats : Bool
      beats = ltb (x v) (x i)

  pub first_least_lem : (v : ℕ) → Least v (first_least may x v)
  unfolding first_least
  first_least_lem zero =
      record {
        is_one = λ h. absurd (h refl);
        is_least = λ u i. absurd (omega arith);
        is_lowest = λ u i. absurd (omega arith);
      }
  first_least_lem (suc v) = least_more v (first_least may x v) (first_least_lem v)

  -- the choice is the first where the ones before it have more and the others no less
  module _ (q : ℕ) (m : may q ≡ true) (before : (u : ℕ) → u < q → may u ≡ true → x q < x u) where
    taken_here : first_least may x (suc q) ≡ suc q
    unfolding first_least
    taken_here = beats (first_least may x q) (first_least_lem q)
      where
        beats : (c : ℕ) → Least q c → or_keep may x q c ≡ suc q
        beats zero l = rw m
        beats (suc i) l =
            let o = l.is_one (λ z. omega arith) in rw (and_both m (lt-ltb (x q) (x i) (before i o.0 o.1)))

    pub is_first : (v : ℕ) → q < v → ((u : ℕ) → u < v → may u ≡ true → x q ≤ x u) → first_least may x v ≡ suc q
    unfolding first_least
    is_first zero h least = absurd (omega arith)
    is_first (suc v) h least =
        elim (ℕ_discrete v q) [
          | yes d ↦ ap (λ (u : ℕ). first_least may x (suc u)) d ∙ taken_here
          | no d ↦ ap (or_keep may x v) (is_first v (omega arith) (λ u j. least u (omega arith))) ∙ rw stays refl
        ]
      where
        beats : Bool
        beats = ltb (x v) (x q)

        stays : (may v && beats) ≡ false
        stays =
            not_so (may v && beats)
            (λ e.
            omega (
              arith,
              ltb-true (x v) (x q) (and_second (may v) beats e),
              least v (omega arith) (and_first (may v) beats e),
            ))
