-- The order of parent lists: it is strict, and a later arc decides only between lists that are the same before it. The
-- first list that another one precedes.
use Prim.Native.Nat.{ℕ, zero, suc, ◌<◌}
use mathlib.Core.Path.{◌≡◌, refl, sym}
use mathlib.Core.Bool.{true, false, ◌&&◌}
use mathlib.Core.List.{List, [], ◌∷◌, ◌++◌}
use mathlib.Core.Logic.{inl, inr}
use mathlib.Core.Option.{none, some}
use native.Mathlib.Omega.{arith}
use borrow.Author.Tests.{ltb-true, eqb-true, lt-ltb, le-ltb, eq-eqb, ne_eqb}
use lib.ListN.{length, get_or}
use lib.Dec.{eqb, ltb}
use Rattle.basics.proofs.Bools.{clash, and_both, and_first, and_second, or_first, or_second, or_cases}
use Rattle.answers.specs.ParentLists.{precedes, first_after}

-- no list precedes itself
pub not_itself : (a : List ℕ) → precedes a a ≡ false
unfolding precedes
not_itself [] = refl
not_itself (x ∷ a) = rw (le-ltb x x (omega arith), eq-eqb x x refl) (not_itself a)

-- of two lists one precedes the other only
pub not_both : (a b : List ℕ) → precedes a b ≡ true → precedes b a ≡ false
unfolding precedes
not_both [] b e = absurd (clash e refl)
not_both (x ∷ a) [] e = refl
not_both (x ∷ a) (y ∷ b) e =
    elim (or_cases (ltb x y) (eqb x y && precedes a b) e) [
      | inl l ↦
          let below = ltb-true x y l in
          rw (le-ltb y x (omega arith), ne_eqb y x (λ s. omega arith)) refl
      | inr l ↦
          let same = eqb-true x y (and_first (eqb x y) (precedes a b) l) in
          rw (le-ltb y x (omega arith), eq-eqb y x (sym same)) (not_both a b (and_second (eqb x y) (precedes a b) l))
    ]

-- one more arc on both changes nothing where one precedes the other
pub precedes_longer : (a b : List ℕ) (p q : ℕ) → precedes a b ≡ true → precedes (a ++ (p ∷ [])) (b ++ (q ∷ [])) ≡ true
unfolding precedes
precedes_longer [] b p q e = absurd (clash e refl)
precedes_longer (x ∷ a) [] p q e = absurd (clash e refl)
precedes_longer (x ∷ a) (y ∷ b) p q e =
    let rest = precedes (a ++ (p ∷ [])) (b ++ (q ∷ [])) in
    elim (or_cases (ltb x y) (eqb x y && precedes a b) e) [
      | inl l ↦ or_first (eqb x y && rest) l
      | inr l ↦
          or_second (ltb x y)
          (and_both (and_first (eqb x y) (precedes a b) l)
          (precedes_longer a b p q (and_second (eqb x y) (precedes a b) l)))
    ]

-- and it decides where both are the same before it
pub precedes_last : (a : List ℕ) (p q : ℕ) → p < q → precedes (a ++ (p ∷ [])) (a ++ (q ∷ [])) ≡ true
unfolding precedes
precedes_last [] p q h = or_first _ (lt-ltb p q h)
precedes_last (x ∷ a) p q h = or_second (ltb x x) (and_both (eq-eqb x x refl) (precedes_last a p q h))

module _ (l : List ℕ) where
  -- where l precedes entry n, and none of the entries before it, that is the first that it precedes
  pub first_after_lem : (ls : List (List ℕ)) (n : ℕ) → n < length ls
      → ((k : ℕ) → k < n → precedes l (get_or ls k []) ≡ false)
      → precedes l (get_or ls n []) ≡ true
      → first_after l ls ≡ some (get_or ls n [])
  unfolding first_after
  first_after_lem [] n h before e = absurd (omega arith)
  first_after_lem (x ∷ ls) zero h before e = rw e refl
  first_after_lem (x ∷ ls) (suc n) h before e =
      rw (before 0 (omega arith)) (first_after_lem ls n (omega arith) (λ k b. before (suc k) (omega arith)) e)

  -- and where it precedes none of them there is none
  pub none_after : (ls : List (List ℕ)) → ((k : ℕ) → k < length ls → precedes l (get_or ls k []) ≡ false)
      → first_after l ls ≡ none
  unfolding first_after
  none_after [] before = refl
  none_after (x ∷ ls) before = rw (before 0 (omega arith)) (none_after ls (λ k b. before (suc k) (omega arith)))
