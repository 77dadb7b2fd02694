-- A tree whose dead ends are marked is checked by its parents and costs alone.
use Prim.Native.Nat.{ℕ, zero, suc, ◌<◌, ◌≤◌}
use mathlib.Core.Path.{◌≡◌, refl, sym, ap, ap₂, ◌∙◌}
use mathlib.Core.Bool.{Bool, true, false, ◌||◌, ◌&&◌, not, or-false}
use mathlib.Core.List.{List}
use native.Mathlib.Omega.{arith}
use borrow.Author.Tests.{eqb-true, eq-eqb, le-ltb}
use lib.ListN.{length}
use lib.Dec.{eqb}
use Rattle.basics.specs.Sum.{pick, some}
use Rattle.basics.proofs.Bools.{not_so, pick_le}
use Rattle.basics.proofs.Sums.{In, in_more, in_last, some_of, some_is}
use Rattle.game.specs.Tree.{tree_of, of_arc, has_child, marked, dead_ends, network_of}
use Rattle.game.proofs.ArcEntries.{of_list}
use Rattle.game.proofs.Below.{child_after}
use Rattle.game.proofs.DeadEnds.{dead_end, dead_ends_length}
use Rattle.limits.specs.Limits.{most_arcs}
use Rattle.answer_forms.specs.Answer.{Check, accepted, fault, written, ◌then◌}
use Rattle.answer_forms.proofs.Composed.{first_accepted, no_fault, then_nothing, then_same}
use Rattle.answers.specs.Checks.{unlike, arc_count_check, arc_check, mark_check, one_by_one, tree_check, plain_check}
use Rattle.answers.specs.Checks.{output_check}
use Rattle.answers.specs.DeadEnds.{dead_ends_list, PlainStatement, DeadEndsStatement}
use Rattle.answers.proofs.Accepted.{alike, each_accepted, count_accepted, arcs_accepted}

each_same : (f g : ℕ → Check) (m : ℕ) → ((k : ℕ) → In m k → f k ≡ g k) → one_by_one f m ≡ one_by_one g m
unfolding one_by_one
each_same f g zero h = refl
each_same f g (suc m) h =
    ap₂ (λ (c d : Check). c then d) (each_same f g m (λ k i. h k (in_more i))) (h (suc m) (in_last m))

module _ (ps cs : List ℕ) where
  abbrev ms : List ℕ
  ms = dead_ends ps

  marks_alike : unlike ps ms ≡ false
  marks_alike = ap not (eq-eqb (length ps) (length ms) (sym (dead_ends_length ps)))

  -- 16 and 17 find nothing
  no_mark_fault : (k : ℕ) → In (length ps) k → mark_check ps ms k ≡ accepted
  unfolding dead_ends
  no_mark_fault k i =
      ap₂ (λ (a b : Bool). fault a 16 k then fault b 17 k)
      (le-ltb 1 (of_arc ms k) (omega (arith, mark_is, pick_le (not (has_child ps k)) 1)))
      (ap (λ (b : Bool). b && has_child ps k) (dead_end ps k i) ∙ not_both (has_child ps k))
    where
      mark_is : of_arc ms k ≡ pick (not (has_child ps k)) 1
      mark_is = of_list (length ps) (λ v. pick (not (has_child ps v)) 1) k i

      not_both : (b : Bool) → (not b && b) ≡ false
      not_both true = refl
      not_both false = refl

  abbrev arcs : Check
  arcs = one_by_one (arc_check ps cs) (length ps)

  arcs_same : one_by_one (λ k. arc_check ps cs k then mark_check ps ms k) (length ps) ≡ arcs
  arcs_same =
      each_same (λ k. arc_check ps cs k then mark_check ps ms k) (arc_check ps cs) (length ps)
      (λ k i. then_nothing (arc_check ps cs k) (no_mark_fault k i))

  -- the last vertex is a dead end where every parent is below its arc
  someone : 0 < length ps → length ps ≡ length cs → arcs ≡ accepted → some (length ps) (marked ms) ≡ true
  unfolding has_child
  someone pos same ok =
      let at_last : In (length ps) (length ps) = omega arith in
      let each = each_accepted (arc_check ps cs) (length ps) ok in
      let no_child = not_so (has_child ps (length ps)) (λ h.
      let s = some_is (length ps) (λ u. eqb (of_arc ps u) (length ps)) h in
      omega (
        arith,
        s.within.high,
        child_after (network_of ps cs ms) (arcs_accepted ps cs same each).rising (length ps) s.which s.within
            (eqb-true (of_arc ps s.which) (length ps) s.passes),
      )) in
      some_of (length ps) (length ps) (marked ms) at_last (dead_end ps (length ps) at_last ∙ ap not no_child)

pub plain_check_lem : PlainStatement
unfolding tree_check plain_check
plain_check_lem ps cs =
    then_same (arc_count_check ps)
    (λ counted.
    ap (λ (b : Bool). fault b 2 0 then after)
    (ap (λ (b : Bool). unlike ps cs || b) (marks_alike ps cs) ∙ or-false (unlike ps cs))
    ∙ then_same (fault (unlike ps cs) 2 0)
    (λ same.
    ap (λ (c : Check). c then nobody) (arcs_same ps cs)
    ∙ then_all (count_accepted most_arcs 1 (length ps) counted).0 (no_fault (unlike ps cs) 2 0 same)))
  where
    nobody : Check
    nobody = fault (not (some (length ps) (marked (dead_ends ps)))) 18 0

    after : Check
    after = one_by_one (λ k. arc_check ps cs k then mark_check ps (dead_ends ps) k) (length ps) then nobody

    then_all : 0 < length ps → unlike ps cs ≡ false → (arcs ps cs then nobody) ≡ arcs ps cs
    then_all pos same =
        then_same (arcs ps cs) {e = accepted}
        (λ ok. ap (λ (b : Bool). fault (not b) 18 0) (someone ps cs pos (alike ps cs same) ok))
        ∙ then_nothing (arcs ps cs) refl

pub plain_few : (ps cs : List ℕ) → plain_check ps cs ≡ accepted → length ps ≤ most_arcs
unfolding plain_check
plain_few ps cs ok =
    (count_accepted most_arcs 1 (length ps)
    (first_accepted (arc_count_check ps)
    (fault (unlike ps cs) 2 0 then one_by_one (arc_check ps cs) (length ps)) ok)).1

pub dead_ends_accepted : DeadEndsStatement
unfolding dead_ends_list
dead_ends_accepted ps cs out ok =
    ap (λ (c : Check). tree_check (tree_of ps cs (written c out (dead_ends ps)))) ok
    ∙ plain_check_lem ps cs
    ∙ first_accepted (plain_check ps cs) (output_check (length ps) out) ok
