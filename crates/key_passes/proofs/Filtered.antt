-- The entries of a list that pass a test, in their order.
--
--   filtered_append, filtered_next    of two lists; one entry more
--   filtered_placed, placed_filtered  what stands in the filtered list stands in the list and passes, and back
--   filtered_rises                    a rising list stays so
--   total_filtered                    a sum over the entries that pass
use Prim.Native.Nat.{ℕ, zero, suc, ◌+◌, ◌<◌}
use mathlib.Core.Path.{◌≡◌, refl, ap, ◌∙◌, subst}
use mathlib.Core.Bool.{Bool, true, false, cond}
use mathlib.Core.Logic.{⊎_elim}
use mathlib.Core.List.{List, [], ◌∷◌, ◌++◌}
use native.Mathlib.Numerals.{add-one}
use native.Mathlib.Omega.{arith}
use lib.ListN.{length, take}
use lib.Seq.{take-suc}
use Rattle.basics.specs.Sum.{pick, total}
use Rattle.basics.proofs.Bools.{both, clash, pick_yes, pick_no}
use Rattle.key_passes.specs.Passes.{at, filtered}
use Rattle.key_passes.proofs.Places.{Placed, placed_first, placed_later}

-- v stands in the list and passes the test
pub record Passing (test : ℕ → Bool) (l : List ℕ) (v : ℕ) : Type 0 where
  pub placed : Placed l v
  pub passes : test v ≡ true

abbrev Rises : List ℕ → Type 0
Rises l = (i j : ℕ) → i < j → j < length l → at l i < at l j

module _ (test : ℕ → Bool) where
  -- the first entry is kept or not
  filtered_cases : (P : List ℕ → Type 0) (w : ℕ) (l : List ℕ) → (test w ≡ true → P (w ∷ filtered test l))
      → (test w ≡ false → P (filtered test l)) → P (filtered test (w ∷ l))
  unfolding filtered
  filtered_cases P w l kept dropped =
      ⊎_elim
      (λ (e : test w ≡ true). rw (e, filtered) (kept e))
      (λ (e : test w ≡ false). rw (e, filtered) (dropped e))
      (both (test w))

  filtered_append : (l m : List ℕ) → filtered test (l ++ m) ≡ filtered test l ++ filtered test m
  unfolding filtered
  filtered_append [] m = refl
  filtered_append (v ∷ l) m =
      ⊎_elim
      (λ (e : test v ≡ true). rw (e, filtered_append l m))
      (λ (e : test v ≡ false). rw (e, filtered_append l m))
      (both (test v))

  pub filtered_next : (l : List ℕ) (i : ℕ) → i < length l
      → filtered test (take (i + 1) l) ≡ filtered test (take i l) ++ cond (test (at l i)) (at l i ∷ []) []
  unfolding filtered
  filtered_next l i h = rw (add-one, take-suc l i 0 h) (filtered_append (take i l) (at l i ∷ []))

  placed_filtered_at : (l : List ℕ) (i : ℕ) → i < length l → test (at l i) ≡ true → Placed (filtered test l) (at l i)
  placed_filtered_at [] i h t = absurd (omega arith)
  placed_filtered_at (w ∷ l) zero h t =
      filtered_cases (λ m. Placed m w) w l (λ e. placed_first w (filtered test l)) (λ e. absurd (clash t e))
  placed_filtered_at (w ∷ l) (suc i) h t =
      let p = placed_filtered_at l i (omega arith) t in
      filtered_cases (λ m. Placed m (at l i)) w l (λ e. placed_later w p) (λ e. p)

  pub placed_filtered : {l : List ℕ} {v : ℕ} → Passing test l v → Placed (filtered test l) v
  placed_filtered {l} {v} p =
      subst (Placed (filtered test l)) p.placed.is
      (placed_filtered_at l p.placed.place p.placed.within (ap test p.placed.is ∙ p.passes))

  later_passing : (w : ℕ) (l : List ℕ) {v : ℕ} → Passing test l v → Passing test (w ∷ l) v
  later_passing w l p = record { placed = placed_later w p.placed; passes = p.passes }

  kept_passing : (w : ℕ) (l m : List ℕ) → test w ≡ true → ((i : ℕ) → i < length m → Passing test l (at m i))
      → (i : ℕ) → i < length (w ∷ m) → Passing test (w ∷ l) (at (w ∷ m) i)
  kept_passing w l m e all zero h = record { placed = placed_first w l; passes = e }
  kept_passing w l m e all (suc i) h = later_passing w l (all i (omega arith))

  pub filtered_placed : (l : List ℕ) (i : ℕ) → i < length (filtered test l) → Passing test l (at (filtered test l) i)
  unfolding filtered
  filtered_placed [] = λ i h. absurd (omega arith)
  filtered_placed (w ∷ l) =
      let all = filtered_placed l in
      filtered_cases (λ m. (i : ℕ) → i < length m → Passing test (w ∷ l) (at m i)) w l
      (λ e. kept_passing w l (filtered test l) e all) (λ e i h. later_passing w l (all i h))

  kept_rises : (w : ℕ) (l : List ℕ) → ((i : ℕ) → i < length l → w < at l i) → Rises l → Rises (w ∷ l)
  kept_rises w l first r i zero lt h = absurd (omega arith)
  kept_rises w l first r zero (suc j) lt h = first j (omega arith)
  kept_rises w l first r (suc i) (suc j) lt h = r i j (omega arith) (omega arith)

  pub filtered_rises : (l : List ℕ) → Rises l → Rises (filtered test l)
  unfolding filtered
  filtered_rises [] r = λ i j lt h. absurd (omega arith)
  filtered_rises (w ∷ l) r =
      let after = filtered_rises l (λ i j lt h. r (suc i) (suc j) (omega arith) (omega arith)) in
      filtered_cases (λ m. Rises m) w l
      (λ e. kept_rises w (filtered test l)
      (λ i h.
      let p = (filtered_placed l i h).placed in
      omega (arith, p.is, r 0 (suc p.place) (omega arith) (omega arith))) after)
      (λ e. after)

  pub total_filtered : (f : ℕ → ℕ) (l : List ℕ) → total f (filtered test l) ≡ total (λ v. pick (test v) (f v)) l
  unfolding total filtered
  total_filtered f [] = refl
  total_filtered f (w ∷ l) =
      filtered_cases (λ m. total f m ≡ pick (test w) (f w) + total (λ v. pick (test v) (f v)) l) w l
      (λ e. omega (arith, total_filtered f l, pick_yes (f w) e))
      (λ e. omega (arith, total_filtered f l, pick_no (f w) e))
