-- What it means that a tree, and the length of an output list, is accepted.
use Prim.Native.Nat.{ℕ, zero, suc, ◌≤◌, ◌<◌}
use mathlib.Core.Path.{◌≡◌, refl, ap, ◌∙◌}
use mathlib.Core.Bool.{true, false, ◌||◌, ◌&&◌, not}
use mathlib.Core.List.{List}
use native.Mathlib.Decide.{dec_lt}
use native.Mathlib.Omega.{arith}
use borrow.Author.Tests.{eqb-true, eqb-false, ltb-false, leb-false, not-false}
use lib.ListN.{length, get_or, get_or-eq_default}
use lib.Dec.{eqb, ltb, leb}
use Rattle.basics.specs.Sum.{some}
use Rattle.game.specs.Tree.{Tree, of_arc, has_child, marked}
use Rattle.basics.proofs.Bools.{clash, neither_first, neither_second}
use Rattle.basics.proofs.Sums.{In, in_more, in_last, in_cases}
use Rattle.answer_forms.specs.Answer.{Check, accepted, fault, ◌then◌}
use Rattle.answer_forms.proofs.Composed.{first_accepted, second_accepted, no_fault}
use Rattle.limits.specs.Limits.{most_arcs, most_cost}
use Rattle.answers.specs.Checks.{unlike, count_check, arc_count_check, parent_check, arc_check, mark_check, one_by_one}
use Rattle.answers.specs.Checks.{tree_check, length_check}

-- a check that finds nothing arc by arc finds nothing at each arc
pub each_accepted : (check : ℕ → Check) (m : ℕ) → one_by_one check m ≡ accepted → (k : ℕ) → In m k → check k ≡ accepted
unfolding one_by_one
each_accepted check zero e k i = absurd (omega arith)
each_accepted check (suc m) e k i =
    in_cases m k i (each_accepted check m (first_accepted (one_by_one check m) (check (suc m)) e) k)
    (λ d. ap check d ∙ second_accepted (one_by_one check m) (check (suc m)) e)

-- and one that finds nothing at each arc finds nothing
pub all_accepted : (check : ℕ → Check) (m : ℕ) → ((k : ℕ) → In m k → check k ≡ accepted) → one_by_one check m ≡ accepted
unfolding one_by_one
all_accepted check zero h = refl
all_accepted check (suc m) h = rw (all_accepted check m (λ k i. h k (in_more i))) (h (suc m) (in_last m))

-- a number from 1 to the most
pub count_accepted : (most number n : ℕ) → count_check most number n ≡ accepted → (0 < n) × (n ≤ most)
count_accepted most number n e =
    let none = no_fault (eqb n 0 || ltb most n) number 0 e in
    let some = eqb-false n 0 (neither_first (eqb n 0) (ltb most n) none) in
    (omega arith, ltb-false most n (neither_second (eqb n 0) (ltb most n) none))

-- each parent is below its arc
pub parents_accepted : (ps : List ℕ) → ((k : ℕ) → In (length ps) k → parent_check ps k ≡ accepted)
    → (v : ℕ) → of_arc ps (suc v) ≤ v
parents_accepted ps each v =
    elim (dec_lt v (length ps)) [
      | yes h ↦ omega (
        arith,
        leb-false (suc v) (get_or ps v 0)
            (no_fault (leb (suc v) (get_or ps v 0)) 3 (suc v) (each (suc v) (omega arith))),
      )
      | no h ↦ omega (arith, get_or-eq_default ps 0 {n = v} (omega arith))
    ]

-- two lists that are not unlike
pub alike : (a b : List ℕ) → unlike a b ≡ false → length a ≡ length b
alike a b e = eqb-true (length a) (length b) (not-false (eqb (length a) (length b)) e)

-- each parent is below its arc, each cost within its limit
pub record Arcs (parents costs : List ℕ) : Type 0 where
  pub rising : (v : ℕ) → of_arc parents (suc v) ≤ v
  pub limited : (k : ℕ) → of_arc costs k ≤ most_cost

module _ (ps cs : List ℕ) (same : length ps ≡ length cs)
    (each : (k : ℕ) → In (length ps) k → arc_check ps cs k ≡ accepted) where
  cost_fault : ℕ → Check
  cost_fault k = fault (ltb most_cost (of_arc cs k)) 4 k

  rises : (v : ℕ) → of_arc ps (suc v) ≤ v
  unfolding cost_fault
  rises = parents_accepted ps (λ k i. first_accepted (parent_check ps k) (cost_fault k) (each k i))

  stays : (k : ℕ) → of_arc cs k ≤ most_cost
  unfolding cost_fault
  stays zero = omega arith
  stays (suc v) =
      elim (dec_lt v (length ps)) [
        | yes h ↦
            ltb-false most_cost (get_or cs v 0)
            (no_fault (ltb most_cost (get_or cs v 0)) 4 (suc v)
            (second_accepted (parent_check ps (suc v)) (cost_fault (suc v)) (each (suc v) (omega arith))))
        | no h ↦ omega (arith, get_or-eq_default cs 0 {n = v} (omega arith))
      ]

  pub arcs_accepted : Arcs ps cs
  arcs_accepted = record { rising = rises; limited = stays }

-- a tree on which no check finds fault
pub record Accepted (t : Tree) : Type 0 where
  pub few : length t.parents ≤ most_arcs
  pub same : length t.parents ≡ length t.costs
  pub one_a_vertex : length t.marks ≡ length t.parents
  pub rooted : (v : ℕ) → of_arc t.parents (suc v) ≤ v
  pub limited : (k : ℕ) → of_arc t.costs k ≤ most_cost
  pub ends : (v : ℕ) → marked t.marks v ≡ true → has_child t.parents v ≡ false
  pub someone : some (length t.parents) (marked t.marks) ≡ true

module _ (t : Tree) (e : tree_check t ≡ accepted) where
  abbrev ps : List ℕ
  ps = t.parents

  abbrev ms : List ℕ
  ms = t.marks

  abbrev at_arc : ℕ → Check
  at_arc k = arc_check ps t.costs k then mark_check ps ms k

  abbrev nobody : Check
  nobody = fault (not (some (length ps) (marked ms))) 18 0

  abbrev after_lengths : Check
  after_lengths = one_by_one at_arc (length ps) then nobody

  abbrev lengths : Check
  lengths = fault (unlike ps t.costs || unlike ps ms) 2 0

  after_count : (lengths then after_lengths) ≡ accepted
  unfolding tree_check
  after_count = second_accepted (arc_count_check ps) (lengths then after_lengths) e

  pub count_check_lem : arc_count_check ps ≡ accepted
  unfolding tree_check
  count_check_lem = first_accepted (arc_count_check ps) (lengths then after_lengths) e

  counted : (0 < length ps) × (length ps ≤ most_arcs)
  counted = count_accepted most_arcs 1 (length ps) count_check_lem

  not_unlike : (unlike ps t.costs || unlike ps ms) ≡ false
  not_unlike =
      no_fault (unlike ps t.costs || unlike ps ms) 2 0 (first_accepted lengths after_lengths after_count)

  same_costs : length ps ≡ length t.costs
  same_costs = alike ps t.costs (neither_first (unlike ps t.costs) (unlike ps ms) not_unlike)

  same_marks : length ps ≡ length ms
  same_marks = alike ps ms (neither_second (unlike ps t.costs) (unlike ps ms) not_unlike)

  arcs_then : after_lengths ≡ accepted
  arcs_then = second_accepted lengths after_lengths after_count

  pub each_arc : (k : ℕ) → In (length ps) k → (arc_check ps t.costs k then mark_check ps ms k) ≡ accepted
  each_arc = each_accepted at_arc (length ps) (first_accepted (one_by_one at_arc (length ps)) nobody arcs_then)

  arcs : Arcs ps t.costs
  arcs =
      arcs_accepted ps t.costs same_costs
      (λ k i. first_accepted (arc_check ps t.costs k) (mark_check ps ms k) (each_arc k i))

  -- 17 at a marked vertex
  marked_ends : (v : ℕ) → marked ms v ≡ true → has_child ps v ≡ false
  marked_ends zero m = absurd (clash m refl)
  marked_ends (suc i) m =
      elim (dec_lt i (length ps)) [
        | yes h ↦
            let here = second_accepted (arc_check ps t.costs (suc i)) (mark_check ps ms (suc i))
            (each_arc (suc i) (omega arith)) in
            let none = no_fault (marked ms (suc i) && has_child ps (suc i)) 17 (suc i)
            (second_accepted (fault (ltb 1 (of_arc ms (suc i))) 16 (suc i))
            (fault (marked ms (suc i) && has_child ps (suc i)) 17 (suc i)) here) in
            rw m at none
        | no h ↦ absurd
            (clash m (ap (λ (x : ℕ). eqb x 1) (get_or-eq_default ms 0 {n = i} (omega (arith, same_marks)))))
      ]

  pub tree_accepted : Accepted t
  tree_accepted =
      record {
        few = counted.1;
        same = same_costs;
        one_a_vertex = omega (arith, same_marks);
        rooted = arcs.rising;
        limited = arcs.limited;
        ends = marked_ends;
        someone =
            not-false (some (length ps) (marked ms))
            (no_fault (not (some (length ps) (marked ms))) 18 0
            (second_accepted (one_by_one at_arc (length ps)) nobody arcs_then));
      }

-- an output list that is accepted has the length of what is written
pub length_accepted : (wanted found : ℕ) → length_check wanted found ≡ accepted → found ≡ wanted
length_accepted wanted found e =
    eqb-true found wanted (not-false (eqb found wanted) (no_fault (not (eqb found wanted)) 8 0 e))
