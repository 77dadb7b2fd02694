-- The list that follows a parent list stands at the next place; the last list has none that follows.
use Prim.Native.Nat.{ℕ, zero, suc, ◌<◌}
use mathlib.Core.Path.{◌≡◌, refl, sym, ap, ◌∙◌}
use mathlib.Core.Bool.{false}
use mathlib.Core.List.{List}
use mathlib.Core.Option.{none, some}
use native.Mathlib.Decide.{dec_lt, ℕ_discrete}
use native.Mathlib.Omega.{arith}
use lib.ListN.{length}
use Rattle.basics.specs.Sum.{list}
use Rattle.basics.proofs.Sums.{In}
use Rattle.basics.proofs.Lists.{list_is}
use Rattle.game.specs.Shapley.{factorial}
use Rattle.game.specs.Tree.{of_arc}
use Rattle.answers.specs.ParentLists.{precedes, parent_lists, first_after, following}
use Rattle.answers.specs.ParentListsLaws.{list_at}
use Rattle.answers.proofs.ParentOrder.{not_itself, not_both, first_after_lem, none_after}
use Rattle.answers.proofs.ParentPlaces.{lists_count, lists_rise, lists_fit, Fits, Below, place}
use Rattle.answers.proofs.ParentPlaces.{place_within, at_place, last_place, Carried, next_place}

-- the list at a place precedes none up to that place
module _ (m i : ℕ) (h : i < factorial m) where
  none_before : (k : ℕ) → k < suc i → precedes (list_at m i) (list_at m k) ≡ false
  none_before k b =
      elim (ℕ_discrete k i) [
        | yes e ↦ rw e (not_itself (list_at m i))
        | no e ↦ not_both (list_at m k) (list_at m i) (lists_rise m k i (omega arith) h)
      ]

  as_many : following (list_at m i) ≡ first_after (list_at m i) (parent_lists m)
  unfolding following
  as_many = ap (λ (x : ℕ). first_after (list_at m i) (parent_lists x)) (lists_fit m i h).long

  pub follows_at : suc i < factorial m → following (list_at m i) ≡ some (list_at m (suc i))
  follows_at b =
      as_many
      ∙ first_after_lem (list_at m i) (parent_lists m) (suc i) (omega (arith, lists_count m)) none_before
      (lists_rise m i (suc i) (omega arith) b)

  pub follows_last : suc i ≡ factorial m → following (list_at m i) ≡ none
  follows_last e =
      as_many ∙ none_after (list_at m i) (parent_lists m) (λ k b. none_before k (omega (arith, lists_count m)))

-- a list of m entries by the numbers at its arcs
pub by_arcs : (m : ℕ) (l : List ℕ) → length l ≡ m → list m (of_arc l) ≡ l
by_arcs m l e = sym (list_is (of_arc l) 0 m l e (λ i b. refl))

pub fits_below : {m : ℕ} {l : List ℕ} → Fits m l → Below m (of_arc l)
fits_below fit zero b = absurd (omega (arith, b.low))
fits_below fit (suc i) b = omega (arith, fit.rooted i b.high)

-- a list that fits stands at its place
pub list_placed : {m : ℕ} {l : List ℕ} → Fits m l → list_at m (place m (of_arc l)) ≡ l
list_placed {m} {l} fit = at_place m (of_arc l) (fits_below fit) ∙ by_arcs m l fit.long

module _ {m : ℕ} {l : List ℕ} (fit : Fits m l) where
  abbrev i : ℕ
  i = place m (of_arc l)

  within : i < factorial m
  within = place_within m (of_arc l) (fits_below fit)

  -- where no entry can rise, none follows
  pub full_follows : ((k : ℕ) → In m k → suc (of_arc l k) ≡ k) → following l ≡ none
  full_follows full =
      ap following (sym (list_placed fit)) ∙ follows_last m i within (last_place m (of_arc l) full)

  -- else the list with the carry follows
  pub carry_follows : (a : ℕ) (l' : List ℕ) → length l' ≡ m → Carried m a (of_arc l) (of_arc l')
      → following l ≡ some l'
  carry_follows a l' long c =
      let below : Below m (of_arc l') = λ k b.
      elim (dec_lt k a) [
        | yes h ↦ omega (arith, c.before k b.low h, fits_below fit k b)
        | no h ↦
            elim (ℕ_discrete k a) [
              | yes e ↦ rw e (omega (arith, c.raised, c.room))
              | no e ↦ omega (arith, c.cleared k (omega arith) b.high, b.low)
            ]
      ] in
      let up = next_place m a (of_arc l) (of_arc l') c in
      ap following (sym (list_placed fit))
      ∙ follows_at m i within (omega (arith, up, place_within m (of_arc l') below))
      ∙ ap some (ap (list_at m) (sym up) ∙ at_place m (of_arc l') below ∙ by_arcs m l' long)
