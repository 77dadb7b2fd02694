-- The laws of the step through all parent lists, about the entry's own answer and list.
use Prim.Native.Nat.{ℕ, zero, suc, ◌+◌, ◌-◌, ◌≤◌, ◌<◌}
use mathlib.Core.Path.{◌≡◌, refl, sym, ap, ◌∙◌}
use mathlib.Core.List.{List, [], ◌∷◌}
use mathlib.Core.Option.{Option-elim}
use native.Mathlib.Decide.{dec_lt, ℕ_discrete}
use native.Mathlib.Omega.{arith}
use borrow.Author.Tests.{ne_eqb, le-ltb, lt-leb}
use lib.ListN.{length, get_or, replicate, drop, drop_of_length-le, length-append, length-replicate, get_or-replicate}
use lib.ListN.{get_or-append}
use lib.Seq.{drop-cons, get_or-append-add}
use Rattle.basics.proofs.Sums.{In}
use Rattle.basics.proofs.Bools.{clash}
use Rattle.limits.specs.Limits.{most_small_arcs}
use Rattle.game.specs.Shapley.{factorial}
use Rattle.game.specs.Tree.{of_arc}
use Rattle.answer_forms.specs.Answer.{Check, accepted, value}
use Rattle.answer_forms.proofs.Composed.{first_accepted, second_accepted}
use Rattle.answers.specs.Checks.{count_check, parent_check, one_by_one, small_check}
use Rattle.answers.specs.ParentLists.{precedes, parent_lists, next, end, step_answer, step_list}
use Rattle.answers.specs.ParentListsLaws.{list_at, StandsAt, walk, Shape, bare, arc, arcs_of, called, parents_of}
use Rattle.answers.specs.ParentListsLaws.{ParentListsLaws, ParentListsStatement}
use Rattle.answers.proofs.Accepted.{each_accepted, all_accepted, count_accepted, parents_accepted}
use Rattle.answers.proofs.ParentOrder.{not_itself}
use Rattle.answers.proofs.ParentPlaces.{lists_count, lists_rise, lists_fit, Fits, place, place_within}
use Rattle.answers.proofs.ParentPlaces.{first_place}
use Rattle.answers.proofs.ParentSteps.{follows_at, follows_last, fits_below, list_placed}

-- a list is accepted: its arcs are few, and each has its parent below it
module _ (l : List ℕ) (ok : small_check l ≡ accepted) where
  abbrev few : Check
  few = count_check most_small_arcs 31 (length l)

  pub small_few : length l ≤ most_small_arcs
  unfolding small_check
  small_few =
      (count_accepted most_small_arcs 31 (length l) (first_accepted few (one_by_one (parent_check l) (length l)) ok)).1

  pub small_rooted : (v : ℕ) → of_arc l (suc v) ≤ v
  unfolding small_check
  small_rooted =
      parents_accepted l
      (each_accepted (parent_check l) (length l) (second_accepted few (one_by_one (parent_check l) (length l)) ok))

-- a list of 1 to 6 arcs that fits is accepted
fits_accepted : (m : ℕ) (l : List ℕ) → 1 ≤ m → m ≤ most_small_arcs → Fits m l → small_check l ≡ accepted
unfolding small_check
fits_accepted m l low high fit =
    let long = fit.long in
    rw (ne_eqb (length l) 0 (λ e. omega arith), le-ltb most_small_arcs (length l) (omega arith))
    (all_accepted (parent_check l) (length l)
    (λ k b.
    rw (lt-leb k (of_arc l k) (fits_below fit k (record { low = b.low; high = omega (arith, b.high) })))
    refl))

-- a shape's arcs, called from n on, are as many as it has, and have their parents below them
called_long : (v n : ℕ) (s : Shape) → length (called v n s) ≡ arcs_of s
unfolding called arcs_of
called_long v n bare = refl
called_long v n (arc below beside) =
    omega (
      arith,
      length-append (called n (suc n) below) (called v (suc n + arcs_of below) beside),
      called_long n (suc n) below,
      called_long v (suc n + arcs_of below) beside,
    )

called_below : (v n : ℕ) (s : Shape) → v < n → (i : ℕ) → i < arcs_of s → get_or (called v n s) i 0 < n + i
unfolding called arcs_of
called_below v n bare h i b = absurd (omega arith)
called_below v n (arc below beside) h zero b = omega arith
called_below v n (arc below beside) h (suc i) b =
    let first = called n (suc n) below in
    let others = called v (suc n + arcs_of below) beside in
    let long = called_long n (suc n) below in
    elim (dec_lt i (arcs_of below)) [
      | yes l ↦
          omega (
            arith,
            get_or-append first others 0 i (omega arith),
            called_below n (suc n) below (omega arith) i l,
          )
      | no l ↦
          let j = i - arcs_of below in
          let behind : i ≡ length first + j = omega arith in
          rw behind (omega (
            arith,
            get_or-append-add first others j 0,
            called_below v (suc n + arcs_of below) beside (omega arith) j (omega arith),
          ))
    ]

module _ (m : ℕ) (low : 1 ≤ m) (high : m ≤ most_small_arcs) where
  at_accepted : (i : ℕ) → i < factorial m → small_check (list_at m i) ≡ accepted
  at_accepted i h = fits_accepted m (list_at m i) low high (lists_fit m i h)

  placed : {l : List ℕ} → Fits m l → (i : ℕ) × StandsAt m l i
  placed {l} fit = (place m (of_arc l), (place_within m (of_arc l) (fits_below fit), list_placed fit))

  stepped : (i : ℕ) → suc i < factorial m
      → (step_answer (list_at m i) ≡ value next) × (step_list (list_at m i) ≡ list_at m (suc i))
  unfolding step_answer step_list Option-elim
  stepped i h =
      let ok = at_accepted i (omega arith) in
      let after = follows_at m i (omega arith) h in
      (rw (ok, after) refl, rw (ok, after) refl)

  ended : (i : ℕ) → suc i ≡ factorial m
      → (step_answer (list_at m i) ≡ value end) × (step_list (list_at m i) ≡ list_at m i)
  unfolding step_answer step_list Option-elim
  ended i h =
      let ok = at_accepted i (omega arith) in
      let after = follows_last m i (omega arith) h in
      (rw (ok, after) refl, rw (ok, after) refl)

  -- from entry i on, as many lists as there are left
  walked_from : (n i : ℕ) → i + n ≡ factorial m → walk n (list_at m i) ≡ drop i (parent_lists m)
  unfolding walk
  walked_from zero i e = sym (drop_of_length-le (parent_lists m) {i = i} (omega (arith, lists_count m)))
  walked_from (suc n) i e =
      let rest : walk n (step_list (list_at m i)) ≡ drop (suc i) (parent_lists m) =
      elim (ℕ_discrete (suc i) (factorial m)) [
        | yes l ↦
            let none_left : n ≡ 0 = omega arith in
            rw none_left (sym (drop_of_length-le (parent_lists m) {i = suc i} (omega (arith, lists_count m))))
        | no l ↦ rw (stepped i (omega arith)).1 (walked_from n (suc i) (omega arith))
      ] in
      ap (λ (ls : List (List ℕ)). list_at m i ∷ ls) rest
      ∙ sym (drop-cons (parent_lists m) i [] (omega (arith, lists_count m)))

  zeros_fit : Fits m (replicate m 0)
  zeros_fit =
      record {
        long = length-replicate m 0;
        rooted = λ i b. omega (arith, get_or-replicate {A = ℕ} m i 0 0 b);
      }

  all_zeros : list_at m 0 ≡ replicate m 0
  all_zeros =
      ap (list_at m) (sym (first_place m (of_arc (replicate m 0)) zero_at)) ∙ list_placed zeros_fit
    where
      zero_at : (k : ℕ) → In m k → of_arc (replicate m 0) k ≡ 0
      zero_at zero b = refl
      zero_at (suc i) b = get_or-replicate m i 0 0 b.high

  apart : (i j : ℕ) → i < j → j < factorial m → list_at m i ≡ list_at m j → ⊥
  apart i j h b e =
      clash (lists_rise m i j h b) (ap (precedes (list_at m i)) (sym e) ∙ not_itself (list_at m i))

  one_place : (i j : ℕ) → i < factorial m → j < factorial m → list_at m i ≡ list_at m j → i ≡ j
  one_place i j a b e =
      elim (ℕ_discrete i j) [
        | yes s ↦ s
        | no s ↦
            elim (dec_lt i j) [
              | yes l ↦ absurd (apart i j l b e)
              | no l ↦ absurd (apart j i (omega arith) a (sym e))
            ]
      ]

  shape_fits : (s : Shape) → arcs_of s ≡ m → Fits m (parents_of s)
  shape_fits s e =
      record {
        long = called_long 0 1 s ∙ e;
        rooted = λ i b. omega (arith, called_below 0 1 s (omega arith) i (omega arith));
      }

  laws : ParentListsLaws m
  laws =
      record {
        count = lists_count m;
        rising = lists_rise m;
        once = one_place;
        exactly = λ l. (
          λ h. placed (record { long = h.0; rooted = λ i b. small_rooted l h.1 i }),
          λ h. (
            ap length (sym h.1.1) ∙ (lists_fit m h.0 h.1.0).long,
            ap small_check (sym h.1.1) ∙ at_accepted h.0 h.1.0,
          ),
        );
        first = all_zeros;
        steps = stepped;
        ends = ended;
        walked = ap (walk (factorial m)) (sym all_zeros) ∙ walked_from (factorial m) 0 (omega arith);
        shapes = λ s e. placed (shape_fits s e);
      }

pub parent_lists_lem : ParentListsStatement
parent_lists_lem = laws
