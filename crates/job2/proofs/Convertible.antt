-- Which jobs of version 2 go back to version 1: those that mark every dead end and have floors of 0.
use Prim.Native.Nat.{ℕ, zero, suc, pred, ◌+◌, ◌<◌, ◌≤◌}
use mathlib.Core.Path.{◌≡◌, refl, sym, ap, ◌∙◌}
use mathlib.Core.Bool.{Bool, true, false, ◌&&◌, not}
use mathlib.Core.List.{List}
use native.Mathlib.Omega.{arith}
use borrow.Author.Tests.{eqb-true, eqb-false, ltb-false}
use lib.ListN.{length, get_or, replicate}
use lib.Dec.{eqb, ltb}
use Rattle.basics.specs.Sum.{pick}
use Rattle.basics.proofs.Lists.{entries_length, list_is}
use Rattle.basics.proofs.Sums.{In}
use Rattle.game.specs.Tree.{of_arc, has_child, marked, dead_ends}
use Rattle.game.proofs.DeadEnds.{dead_end}
use Rattle.answer_forms.specs.Answer.{accepted, fault, ◌then◌}
use Rattle.answer_forms.proofs.Composed.{first_accepted, second_accepted, no_fault, went_on}
use Rattle.answers.proofs.Accepted.{tree_accepted, each_accepted, all_accepted}
use Rattle.job_bytes.specs.JobBytes.{filled_with}
use Rattle.job_bytes.specs.Format.{arc_offset, member_offset, job_arcs, job_members, parent_at, filler_at, cap_at, floor_at}
use Rattle.job_bytes.specs.Format.{job_parents, job_fillers, job_caps, job_floors, job_held, job_contents}
use Rattle.job_bytes.specs.declared.version.Version.TheVariants.{Two}
use Rattle.job_form.proofs.FillersAccepted.{filler_accepted, mark_small}
use Rattle.job_checks.specs.JobCheck.{marks_of, job_tree, job_check}
use Rattle.job_checks.proofs.Zeros.{zero_at, zeros_are}
use Rattle.job_checks.proofs.Accepted.{JobAccepted, job_accepted}
use Rattle.job2.specs.Converter.{unmarked_check, floored_check, back_check}

module _ (bytes : List ℕ) where
  abbrev ps : List ℕ
  ps = job_parents bytes

  abbrev ms : List ℕ
  ms = job_fillers bytes

  arcs : length ps ≡ job_arcs bytes
  arcs = entries_length (parent_at bytes (arc_offset bytes)) (job_arcs bytes)

  members : length (job_caps Two bytes) ≡ job_members bytes
  members = entries_length (cap_at Two bytes (member_offset bytes)) (job_members bytes)

  module _ (e : back_check bytes ≡ accepted) where
    after_job :
        (unmarked_check (dead_ends ps) ms (job_arcs bytes) then floored_check (job_floors Two bytes) (job_members bytes))
        ≡ accepted
    unfolding back_check
    after_job =
        second_accepted (job_check Two bytes)
        (unmarked_check (dead_ends ps) ms (job_arcs bytes) then floored_check (job_floors Two bytes) (job_members bytes)) e

    pub back_job : job_check Two bytes ≡ accepted
    unfolding back_check
    back_job =
        first_accepted (job_check Two bytes)
        (unmarked_check (dead_ends ps) ms (job_arcs bytes) then floored_check (job_floors Two bytes) (job_members bytes)) e

    ok : JobAccepted Two bytes
    ok = job_accepted Two bytes back_job

    -- 29 and 30 find nothing
    no_29 : (k : ℕ) → In (job_arcs bytes) k → (marked (dead_ends ps) k && not (marked ms k)) ≡ false
    unfolding unmarked_check
    no_29 k i =
        let all = first_accepted (unmarked_check (dead_ends ps) ms (job_arcs bytes))
        (floored_check (job_floors Two bytes) (job_members bytes)) after_job in
        no_fault (marked (dead_ends ps) k && not (marked ms k)) 29 k
        (each_accepted (λ k. fault (marked (dead_ends ps) k && not (marked ms k)) 29 k) (job_arcs bytes) all k i)

    no_30 : (j : ℕ) → j < job_members bytes → get_or (job_floors Two bytes) j 0 ≡ 0
    unfolding floored_check
    no_30 j h =
        let all = second_accepted (unmarked_check (dead_ends ps) ms (job_arcs bytes))
        (floored_check (job_floors Two bytes) (job_members bytes)) after_job in
        let here = each_accepted (λ i. fault (ltb 0 (of_arc (job_floors Two bytes) i)) 30 (pred i)) (job_members bytes) all
        (suc j) (record { low = omega arith; high = omega arith }) in
        omega (
          arith,
          ltb-false 0 (get_or (job_floors Two bytes) j 0)
              (no_fault (ltb 0 (get_or (job_floors Two bytes) j 0)) 30 j here),
        )

    -- a mark, by whether its vertex has a child
    mark_by : (child : Bool) (mark : ℕ) → mark ≤ 1 → (eqb mark 1 ≡ true → child ≡ false)
        → (not child && not (eqb mark 1)) ≡ false → mark ≡ pick (not child) 1
    mark_by true mark small no_child found =
        let unmarked = eqb-false mark 1 (not_so (eqb mark 1) no_child) in omega arith
      where
        not_so : (b : Bool) → (b ≡ true → true ≡ false) → b ≡ false
        not_so true h = h refl
        not_so false h = refl
    mark_by false mark small no_child found = eqb-true mark 1 (twice (eqb mark 1) found)
      where
        twice : (b : Bool) → not b ≡ false → b ≡ true
        twice true h = refl
        twice false h = sym h

    pub marks_are : ms ≡ dead_ends ps
    unfolding dead_ends marks_of
    marks_are =
        list_is (λ v. pick (not (has_child ps v)) 1) 0 (length ps) ms
        (entries_length (filler_at bytes (arc_offset bytes)) (job_arcs bytes) ∙ sym arcs)
        (λ i h. let in_arcs : i < job_arcs bytes = omega (arith, arcs) in
        let k : In (job_arcs bytes) (suc i) = record { low = omega arith; high = omega arith } in
        let v : In (length ps) (suc i) = record { low = omega arith; high = omega arith } in
        mark_by (has_child ps (suc i)) (get_or ms i 0)
        (mark_small (get_or ms i 0) (i + 1) (filler_accepted Two bytes ok.fillers i in_arcs))
        ((tree_accepted (job_tree Two bytes) ok.tree).ends (suc i))
        (ap (λ (b : Bool). b && not (marked ms (suc i))) (sym (dead_end ps (suc i) v)) ∙ no_29 (suc i) k))

    pub floors_are : job_floors Two bytes ≡ replicate (length (job_caps Two bytes)) 0
    floors_are =
        rw members
        (zeros_are (job_floors Two bytes) (job_members bytes)
        (entries_length (floor_at Two bytes (member_offset bytes)) (job_members bytes)) no_30)

    pub held_back : job_held Two bytes ≡ filled_with (dead_ends ps) (job_contents Two bytes)
    held_back = rw (marks_are, floors_are)

  -- and every such job goes back
  pub back_accepted : job_check Two bytes ≡ accepted → ms ≡ dead_ends ps
      → job_floors Two bytes ≡ replicate (length (job_caps Two bytes)) 0 → back_check bytes ≡ accepted
  unfolding back_check unmarked_check floored_check
  back_accepted e marks floors =
      let n = length (job_caps Two bytes) in
      sym (went_on e (went_on (all_accepted _ (job_arcs bytes) (λ k i. rw marks (rw (never (marked (dead_ends ps) k)))))
      (sym (all_accepted _ (job_members bytes) (λ i l. rw floors (floor_none n i))))))
    where
      never : (b : Bool) → (b && not b) ≡ false
      never true = refl
      never false = refl

      floor_none : (n i : ℕ) → fault (ltb 0 (of_arc (replicate n 0) i)) 30 (pred i) ≡ accepted
      floor_none n zero = refl
      floor_none n (suc j) = rw (zero_at n j)
