-- The members in a pass over the marks: how many there are up to a vertex, and their list.
use Prim.Native.Nat.{ℕ, suc, pred, ◌+◌, ◌-◌, ◌≤◌, ◌<◌}
use mathlib.Core.Path.{◌≡◌, refl, sym, ap, ap₂, ◌∙◌}
use mathlib.Core.Bool.{true, false}
use mathlib.Core.List.{List, [], ◌∷◌, ◌++◌}
use native.Mathlib.Numerals.{add-one}
use native.Mathlib.Omega.{arith}
use borrow.Author.Tests.{eq-eqb, ne_eqb}
use lib.ListN.{length, get_or, set, take, length-set}
use lib.Seq.{take-suc, take-set-le, get_or-set_same}
use lib.Dec.{eqb}
use Rattle.basics.specs.Sum.{pick, count}
use Rattle.game.specs.Network.{members_to}
use Rattle.game.specs.Tree.{marked}
use Rattle.basics.proofs.Bools.{pick_yes, pick_no}
use Rattle.basics.proofs.Sums.{sum_longer, count_le}
use Rattle.game.proofs.Numbering.{members_yes, members_no}

module _ (ms : List ℕ) where
  -- how many members there are up to vertex k
  abbrev pub up_to : ℕ → ℕ
  up_to k = count k (marked ms)

  pub up_to_le : (k : ℕ) → up_to k ≤ k
  up_to_le k = count_le k (marked ms)

  module _ {k i w : ℕ} (next : k ≡ suc i) (one : w ≡ pick (eqb (get_or ms i 0) 1) 1) where
    -- vertex k is one more where it is marked
    pub up_to_next : up_to k ≡ up_to i + w
    up_to_next = ap up_to next ∙ ap (λ (x : ℕ). up_to i + x) (sym one)

    -- where k is a member, its number
    pub up_to_number : up_to k - w ≡ count (pred k) (marked ms)
    up_to_number =
        let before : i ≡ pred k = omega arith in
        let rest : up_to k - w ≡ up_to i = omega (arith, up_to_next) in
        rest ∙ ap up_to before

  -- the first j places hold the members up to vertex i
  pub record Listing (out : List ℕ) (j i : ℕ) : Type 0 where
    pub place : j ≡ up_to i
    pub front : take j out ≡ members_to (marked ms) i

  pub listing_start : {out : List ℕ} → Listing out 0 0
  unfolding members_to
  listing_start = record { place = refl; front = refl }

  module _ {out : List ℕ} {i j : ℕ} (within : i < length ms) (sized : length out ≡ up_to (length ms))
      (l : Listing out j i) where
    -- a member has a place left
    pub listing_room : get_or ms i 0 ≡ 1 → j < length out
    listing_room m =
        omega (
          arith,
          l.place,
          pick_yes 1 (eq-eqb (get_or ms i 0) 1 m),
          sum_longer (suc i) (length ms) (λ v. pick (marked ms v) 1) within,
        )

    -- vertex i + 1 is a member, or it is not
    pub listing_member : get_or ms i 0 ≡ 1 → Listing (set out j (i + 1)) (j + 1) (i + 1)
    listing_member m =
        let room = listing_room m in
        let yes : marked ms (suc i) ≡ true = eq-eqb (get_or ms i 0) 1 m in
        simp add-one
        (record {
          place = omega (arith, l.place, pick_yes 1 yes);
          front =
              take-suc (set out j (suc i)) j 0 (omega (arith, length-set out j (suc i)))
              ∙ ap₂ (λ (r : List ℕ) (x : ℕ). r ++ (x ∷ []))
              (take-set-le j out j (suc i) (omega arith) ∙ l.front)
              (get_or-set_same out j (suc i) 0 room)
              ∙ sym (members_yes (marked ms) i yes);
        })

    pub listing_other : (get_or ms i 0 ≡ 1 → ⊥) → Listing out j (i + 1)
    listing_other d =
        let no : marked ms (suc i) ≡ false = ne_eqb (get_or ms i 0) 1 d in
        rw add-one
        (record {
          place = omega (arith, l.place, pick_no 1 no);
          front = l.front ∙ sym (members_no (marked ms) i no);
        })
