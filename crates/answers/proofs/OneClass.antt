-- One class is the by-arc split; and nobody pays for a stub, in any class.
use Prim.Native.Nat.{ℕ, ◌*◌}
use mathlib.Core.Path.{◌≡◌, refl, sym, ap, ◌∙◌}
use mathlib.Core.Bool.{not, ◌||◌}
use mathlib.Core.List.{List}
use native.Mathlib.Nat.{one-mul, zero-mul}
use native.Mathlib.Decide.{ℕ_discrete}
use native.Mathlib.Omega.{arith}
use borrow.Author.Tests.{eq-eqb, ne_eqb}
use lib.ListN.{length, get_or}
use lib.Seq.{take_all}
use lib.Dec.{eqb}
use Rattle.basics.specs.Sum.{some}
use Rattle.basics.proofs.Lists.{list_is}
use Rattle.game.specs.Tree.{Tree, tree_of, marked, network}
use Rattle.game.specs.ByArc.{by_arc}
use Rattle.answer_forms.specs.Answer.{Check, accepted, refused, fault, ◌then◌, answer, written}
use Rattle.answer_forms.proofs.Composed.{then_same}
use Rattle.answers.specs.Checks.{unlike, arc_count_check, arc_check, mark_check, one_by_one, tree_check, output_check}
use Rattle.answers.specs.Members.{members_check}
use Rattle.answers.specs.ByArc.{by_arc_answer, by_arc_list}
use Rattle.answers.specs.Classes.{Classed, classed_of, class_costs, summed_cost, summed_costs, summed_tree}
use Rattle.answers.specs.Classes.{class_members, classed_check, joined, class_shares}
use Rattle.answers.specs.Classes.{classes_answer, classes_list}
use Rattle.answers.specs.ClassesLaws.{OneClassStatement}
use Rattle.answers.proofs.Classed.{all_costs}

module _ (ps cs ms : List ℕ) where
  abbrev alone : Classed
  alone = classed_of ps cs ms 1

  abbrev tree : Tree
  tree = tree_of ps cs ms

  -- where there is one cost an arc
  module _ (long : length cs ≡ length ps) where
    its_costs : class_costs alone 0 ≡ cs
    its_costs = rw (zero-mul (length ps)) (take_all (length ps) cs (omega arith))

    its_sums : summed_costs alone ≡ cs
    unfolding summed_costs
    its_sums =
        sym
        (list_is (summed_cost alone) 0 (length ps) cs long
        (λ i h. omega (arith, ap (λ (l : List ℕ). get_or l i 0) its_costs)))

  -- what the tree's check finds after the number of arcs
  abbrev after_count : Check
  after_count =
      fault (unlike ps cs || unlike ps ms) 2 0
      then one_by_one (λ k. arc_check ps cs k then mark_check ps ms k) (length ps)
      then fault (not (some (length ps) (marked ms))) 18 0

  -- and what the classes' check finds
  abbrev class_after_count : Check
  class_after_count = fault (not (eqb (length cs) (1 * length ps))) 2 0 then tree_check (summed_tree alone)

  tree_after : arc_count_check ps ≡ accepted → tree_check tree ≡ after_count
  unfolding tree_check
  tree_after counted = ap (λ (c : Check). c then after_count) counted

  same_after : arc_count_check ps ≡ accepted → class_after_count ≡ after_count
  same_after counted =
      elim (ℕ_discrete (length cs) (length ps)) [
        | yes long ↦
            rw (one-mul (length ps), eq-eqb (length cs) (length ps) long)
            (ap (λ (l : List ℕ). tree_check (tree_of ps l ms)) (its_sums long) ∙ tree_after counted)
        | no other ↦
            rw (
              one-mul (length ps),
              ne_eqb (length cs) (length ps) other,
              ne_eqb (length ps) (length cs) (λ e. other (sym e)),
            )
      ]

  one_check : classed_check alone ≡ tree_check tree
  unfolding classed_check tree_check
  one_check = then_same (arc_count_check ps) same_after

  -- 8 asks for the same length
  one_output : (out : List ℕ)
      → (classed_check alone then output_check (1 * class_members alone) out) ≡ members_check tree out
  one_output out =
      rw (one-mul (class_members alone)) (ap (λ (c : Check). c then output_check (class_members alone) out) one_check)

  -- where nothing is refused the shares are the same
  one_shares : classed_check alone ≡ accepted → joined 1 (class_shares alone) ≡ by_arc (network tree)
  unfolding joined
  one_shares ok =
      ap (λ (l : List ℕ). by_arc (network (tree_of ps l ms))) (its_costs (all_costs alone ok ∙ one-mul (length ps)))

pub one_class : OneClassStatement
unfolding classes_answer classes_list by_arc_answer by_arc_list
one_class ps cs ms out =
    record {
      answer = ap (λ (c : Check). answer c (class_members (alone ps cs ms))) (one_output ps cs ms out);
      list =
          written_same (classed_check (alone ps cs ms)) (output_check (1 * class_members (alone ps cs ms)) out)
          (one_shares ps cs ms)
          ∙ ap (λ (c : Check). written c out (by_arc (network (tree ps cs ms)))) (one_output ps cs ms out);
    }
  where
    written_same : (c d : Check) {x y : List ℕ} → (c ≡ accepted → x ≡ y)
        → written (c then d) out x ≡ written (c then d) out y
    written_same accepted d h = ap (written d out) (h refl)
    written_same (refused number place) d h = refl
