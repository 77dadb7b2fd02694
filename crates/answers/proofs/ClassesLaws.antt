-- Demand 2 of cost classes: the laws of the by-arc split at the tree of any class, the totals, and the classes added.
use Prim.Native.Nat.{ℕ, ◌+◌, ◌*◌, ◌≤◌, ◌<◌}
use mathlib.Core.Path.{◌≡◌, sym, ap, ◌∙◌}
use mathlib.Core.List.{List, map, ◌++◌}
use native.Mathlib.Omega.{arith}
use borrow.Author.Tests.{lt-ltb, le-ltb}
use lib.ListN.{length, get_or, get_or-append}
use lib.Seq.{get_or-append-add}
use lib.IntN.{pos}
use lib.Dec.{ltb}
use Rattle.basics.specs.Sum.{pick, sum₀}
use Rattle.basics.proofs.Bools.{pick_yes, pick_no}
use Rattle.basics.proofs.Sums.{In, sum₀_cong, sum₀_pick}
use Rattle.basics.proofs.Lists.{entries_length, entries_at}
use Rattle.game.specs.Network.{used, everyone}
use Rattle.game.specs.Tree.{Tree, of_arc, counted_costs, network}
use Rattle.game.specs.ByArc.{by_arc}
use Rattle.game.specs.Core.{Core}
use Rattle.game.proofs.ArcEntries.{of_list}
use Rattle.game.proofs.Counted.{counted_at}
use Rattle.game.proofs.ByArc.{by_arc_length}
use Rattle.game.proofs.AddedCosts.{added_core}
use Rattle.limits.specs.Limits.{most_classes}
use Rattle.answer_forms.specs.Answer.{Check, accepted, written}
use Rattle.answer_forms.proofs.Composed.{first_accepted}
use Rattle.answers.specs.Checks.{tree_check, output_check}
use Rattle.answers.specs.ByArcLaws.{ByArcLaws}
use Rattle.answers.specs.Classes.{Classed, part, class_costs, class_tree, summed_cost, summed_costs, summed_tree}
use Rattle.answers.specs.Classes.{class_members, classed_check, classes_check, joined, class_shares, paid_in, cost_in}
use Rattle.answers.specs.Classes.{by_class, classes_list, classes_totals}
use Rattle.answers.specs.ClassesLaws.{shares_in, added_shares, ClassLaws, ClassesStatement}
use Rattle.answers.proofs.ByArcLaws.{by_arc_of_tree, by_arc_total}
use Rattle.answers.proofs.CorePasses.{core_passes}
use Rattle.answers.proofs.ClassParts.{joined_length, joined_part}
use Rattle.answers.proofs.Classed.{few_classes, summed_accepted, class_accepted}

-- the totals of the classes in use, and 0 for the others
module _ (classes : ℕ) (f : ℕ → ℕ) where
  abbrev total_of : ℕ → ℕ
  total_of c = pick (ltb c classes) (f c)

  by_class_length : length (by_class classes f) ≡ most_classes
  by_class_length = entries_length total_of most_classes

  in_use : (c : ℕ) → c < classes → c < most_classes → get_or (by_class classes f) c 0 ≡ f c
  in_use c h l = entries_at total_of 0 most_classes c l ∙ pick_yes (f c) (lt-ltb c classes h)

  not_in_use : (c : ℕ) → classes ≤ c → c < most_classes → get_or (by_class classes f) c 0 ≡ 0
  not_in_use c h l = entries_at total_of 0 most_classes c l ∙ pick_no (f c) (le-ltb c classes h)

module _ (w : Classed) (out : List ℕ) (ok : classes_check w out ≡ accepted) where
  classed_ok : classed_check w ≡ accepted
  classed_ok = first_accepted (classed_check w) (output_check (w.classes * class_members w) out) ok

  shares : classes_list w out ≡ joined w.classes (class_shares w)
  unfolding classes_list
  shares = ap (λ (c : Check). written c out (joined w.classes (class_shares w))) ok

  sized : (c : ℕ) → c < w.classes → length (class_shares w c) ≡ class_members w
  sized c h = by_arc_length (network (class_tree w c))

  share_part : (c : ℕ) → c < w.classes → shares_in w out c ≡ class_shares w c
  share_part c h =
      ap (part (class_members w) c) shares ∙ joined_part (class_members w) (class_shares w) w.classes c sized h

  module _ (c : ℕ) (h : c < most_classes) where
    paid_at : get_or (classes_totals w out) c 0 ≡ get_or (by_class w.classes (paid_in w)) c 0
    unfolding classes_totals
    paid_at =
        rw ok
        (get_or-append (by_class w.classes (paid_in w)) (by_class w.classes (cost_in w)) 0 c
        (omega (arith, by_class_length w.classes (paid_in w))))

    cost_at : get_or (classes_totals w out) (most_classes + c) 0 ≡ get_or (by_class w.classes (cost_in w)) c 0
    unfolding classes_totals
    cost_at =
        let paid = by_class w.classes (paid_in w) in
        let costs = by_class w.classes (cost_in w) in
        rw ok
        (ap (λ (k : ℕ). get_or (paid ++ costs) (k + c) 0) (sym (by_class_length w.classes (paid_in w)))
        ∙ get_or-append-add paid costs c 0)

  -- any class in use
  module _ (c : ℕ) (h : c < w.classes) where
    abbrev its_tree : Tree
    its_tree = class_tree w c

    four : c < most_classes
    four = omega (arith, (few_classes w classed_ok).1)

    by_arc_lem : ByArcLaws its_tree (by_arc (network its_tree))
    by_arc_lem = by_arc_of_tree its_tree (class_accepted w classed_ok c h)

    paid_total : get_or (classes_totals w out) c 0 ≡ paid_in w c
    paid_total = paid_at c four ∙ in_use w.classes (paid_in w) c h four

    cost_total : get_or (classes_totals w out) (most_classes + c) 0 ≡ cost_in w c
    cost_total = cost_at c four ∙ in_use w.classes (cost_in w) c h four

    class_laws : ClassLaws w out c
    class_laws =
        record {
          tree = class_accepted w classed_ok c h;
          by_arc_laws = rw (share_part c h) by_arc_lem;
          paid = rw (share_part c h) paid_total;
          cost = cost_total;
          equal = paid_total ∙ by_arc_total its_tree (class_accepted w classed_ok c h) ∙ sym cost_total;
        }

  -- the counted costs add up over the classes, since who uses an arc does not depend on costs
  counted_adds : (k : ℕ) → In (length w.parents) k
      → of_arc (counted_costs (summed_tree w)) k ≡ sum₀ w.classes (λ c. of_arc (counted_costs (class_tree w c)) k)
  unfolding used summed_costs
  counted_adds k i =
      counted_at (summed_tree w) k i
      ∙ ap (pick (used (network (summed_tree w)) everyone k))
      (of_list (length w.parents) (summed_cost w) k i)
      ∙ sym (sum₀_pick (used (network (summed_tree w)) everyone k) w.classes (λ c. of_arc (class_costs w c) k))
      ∙ sum₀_cong w.classes (λ c h. sym (counted_at (class_tree w c) k i))

  together : Core (network (summed_tree w)) (map pos (added_shares w out))
  together =
      added_core (network (summed_tree w)) w.classes (λ c. of_arc (counted_costs (class_tree w c))) counted_adds
      (shares_in w out) (λ c h. (class_laws c h).by_arc_laws.in_core)

pub classes_laws : ClassesStatement
classes_laws w out ok =
    record {
      all_shares =
          ap length (shares w out ok)
          ∙ joined_length (class_members w) (class_shares w) w.classes (sized w out ok);
      each = class_laws w out ok;
      none_paid = λ c h l. paid_at w out ok c l ∙ not_in_use w.classes (paid_in w) c h l;
      no_cost = λ c h l. cost_at w out ok c l ∙ not_in_use w.classes (cost_in w) c h l;
      summed = tree_ok;
      in_core = together w out ok;
      passes =
          core_passes (summed_tree w) tree_ok (added_shares w out)
          (entries_length (λ j. sum₀ w.classes (λ c. get_or (shares_in w out c) j 0)) (class_members w))
          (together w out ok);
    }
  where
    tree_ok : tree_check (summed_tree w) ≡ accepted
    tree_ok = summed_accepted w (classed_ok w out ok)
