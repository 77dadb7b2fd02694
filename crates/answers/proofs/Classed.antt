-- What it means that a tree with costs in classes is accepted: each class's tree is accepted.
use Prim.Native.Nat.{ℕ, zero, suc, ◌*◌, ◌≤◌, ◌<◌}
use mathlib.Core.Path.{◌≡◌, refl, sym, ap, ap₂, ◌∙◌}
use mathlib.Core.Bool.{Bool, ◌||◌, not}
use mathlib.Core.List.{List}
use native.Mathlib.Decide.{dec_lt}
use native.Mathlib.Omega.{arith}
use borrow.Author.Tests.{eqb-true, not-false, le-ltb}
use lib.ListN.{length, get_or, drop, length-take, get_or-eq_default}
use lib.Dec.{eqb, ltb}
use Rattle.basics.specs.Sum.{some}
use Rattle.basics.proofs.Sums.{In, in_more, in_last, term₀_le}
use Rattle.basics.proofs.Lists.{list_length, list_at}
use Rattle.game.specs.Tree.{tree_of, of_arc, marked}
use Rattle.limits.specs.Limits.{most_cost, most_classes}
use Rattle.answer_forms.specs.Answer.{Check, accepted, fault, ◌then◌}
use Rattle.answer_forms.proofs.Composed.{first_accepted, second_accepted, no_fault}
use Rattle.answers.specs.Checks.{unlike, count_check, arc_count_check, parent_check, mark_check, one_by_one, tree_check}
use Rattle.answers.specs.Classes.{Classed, class_costs, class_tree, summed_cost, summed_costs, summed_tree}
use Rattle.answers.specs.Classes.{classed_check}
use Rattle.answers.specs.ClassesLaws.{ClassAtMostStatement}
use Rattle.answers.proofs.Accepted.{count_accepted, tree_accepted}
use Rattle.answers.proofs.ClassParts.{part_length}

-- checks that find the same at each arc
one_by_one_same : (m : ℕ) {f g : ℕ → Check} → ((k : ℕ) → In m k → f k ≡ g k) → one_by_one f m ≡ one_by_one g m
unfolding one_by_one
one_by_one_same zero h = refl
one_by_one_same (suc m) h =
    ap₂ (λ (a b : Check). a then b) (one_by_one_same m (λ k i. h k (in_more i))) (h (suc m) (in_last m))

-- of the costs the tree's check looks at their number, and whether each is above the limit
pub check_by_costs : (ps cs ds ms : List ℕ) → length cs ≡ length ds
    → ((k : ℕ) → In (length ps) k → ltb most_cost (of_arc cs k) ≡ ltb most_cost (of_arc ds k))
    → tree_check (tree_of ps cs ms) ≡ tree_check (tree_of ps ds ms)
unfolding tree_check
check_by_costs ps cs ds ms long same =
    ap₂ found long
    (one_by_one_same (length ps)
    (λ k i. ap (λ (b : Bool). (parent_check ps k then fault b 4 k) then mark_check ps ms k) (same k i)))
  where
    -- what is found, by the number of costs and what is found arc by arc
    found : ℕ → Check → Check
    found costs arcs =
        arc_count_check ps
        then fault (not (eqb (length ps) costs) || unlike ps ms) 2 0
        then arcs
        then fault (not (some (length ps) (marked ms))) 18 0

module _ (w : Classed) where
  abbrev m : ℕ
  m = length w.parents

  pub summed_length : length (summed_costs w) ≡ m
  unfolding summed_costs
  summed_length = list_length (summed_cost w) m

  pub summed_at : (i : ℕ) → i < m → get_or (summed_costs w) i 0 ≡ summed_cost w (suc i)
  unfolding summed_costs
  summed_at i h = list_at (summed_cost w) 0 m i h

pub class_at_most : ClassAtMostStatement
class_at_most w c zero h = omega arith
class_at_most w c (suc i) h =
    elim (dec_lt i (length w.parents)) [
      | yes l ↦ omega (arith, summed_at w i l, term₀_le w.classes c (λ d. of_arc (class_costs w d) (suc i)) h)
      | no l ↦ omega (
        arith,
        get_or-eq_default (class_costs w c) 0 {n = i}
            (omega (arith, length-take (length w.parents) (drop (c * length w.parents) w.costs))),
      )
    ]

module _ (w : Classed) (ok : classed_check w ≡ accepted) where
  abbrev several : Check
  several = count_check most_classes 32 w.classes

  abbrev sizes : Check
  sizes = fault (not (eqb (length w.costs) (w.classes * m w))) 2 0

  abbrev after_count : Check
  after_count = sizes then tree_check (summed_tree w)

  after_several : (arc_count_check w.parents then after_count) ≡ accepted
  unfolding classed_check
  after_several = second_accepted several (arc_count_check w.parents then after_count) ok

  after_sizes : after_count ≡ accepted
  after_sizes = second_accepted (arc_count_check w.parents) after_count after_several

  -- one to four classes
  pub few_classes : (0 < w.classes) × (w.classes ≤ most_classes)
  unfolding classed_check
  few_classes =
      count_accepted most_classes 32 w.classes
      (first_accepted several (arc_count_check w.parents then after_count) ok)

  -- one cost an arc and class
  pub all_costs : length w.costs ≡ w.classes * m w
  all_costs =
      eqb-true (length w.costs) (w.classes * m w)
      (not-false (eqb (length w.costs) (w.classes * m w))
      (no_fault (not (eqb (length w.costs) (w.classes * m w))) 2 0
      (first_accepted sizes (tree_check (summed_tree w)) after_sizes)))

  pub summed_accepted : tree_check (summed_tree w) ≡ accepted
  summed_accepted = second_accepted sizes (tree_check (summed_tree w)) after_sizes

  -- each class's tree: its costs are within the limit, as their sums are
  pub class_accepted : (c : ℕ) → c < w.classes → tree_check (class_tree w c) ≡ accepted
  class_accepted c h =
      check_by_costs w.parents (class_costs w c) (summed_costs w) w.marks
      (part_length (m w) w.classes c w.costs all_costs h ∙ sym (summed_length w))
      (λ k i.
      le-ltb most_cost (of_arc (class_costs w c) k) (omega (arith, class_at_most w c k h, limited k))
      ∙ sym (le-ltb most_cost (of_arc (summed_costs w) k) (limited k)))
      ∙ summed_accepted
    where
      limited : (k : ℕ) → of_arc (summed_costs w) k ≤ most_cost
      limited = (tree_accepted (summed_tree w) summed_accepted).limited
