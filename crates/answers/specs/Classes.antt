-- Cost classes: an arc has a cost in each of one to four classes, and each class is split by arc by itself.
use Rattle.std.specs.Prelude.{ℕ, zero, suc, ◌*◌, not, List, [], ◌++◌, length, take, drop, replicate, eqb, ltb}
use Rattle.basics.specs.Sum.{pick, sum₀, list, entries, total}
use Rattle.game.specs.Network.{member_count, whole_cost}
use Rattle.game.specs.Tree.{Tree, tree_of, of_arc, network}
use Rattle.game.specs.ByArc.{by_arc}
use Rattle.limits.specs.Limits.{most_classes}
use Rattle.answer_forms.specs.Answer.{Check, Answer, fault, ◌then◌, answer, written}
use Rattle.answers.specs.Checks.{count_check, arc_count_check, tree_check, output_check}

-- a tree with the costs of so many classes, class after class
pub record Classed : Type 0 where
  pub parents : List ℕ
  pub costs : List ℕ
  pub marks : List ℕ
  pub classes : ℕ

abbrev pub classed_of : List ℕ → List ℕ → List ℕ → ℕ → Classed
classed_of parents costs marks classes =
    record { parents = parents; costs = costs; marks = marks; classes = classes }

-- the part of class c, counted from 0, in a list that has so many entries a class
abbrev pub part : ℕ → ℕ → List ℕ → List ℕ
part size c l = take size (drop (c * size) l)

-- the costs of class c
abbrev pub class_costs : Classed → ℕ → List ℕ
class_costs w c = part (length w.parents) c w.costs

-- the tree with the costs of class c
abbrev pub class_tree : Classed → ℕ → Tree
class_tree w c = tree_of w.parents (class_costs w c) w.marks

-- arc k's costs added over the classes
abbrev pub summed_cost : Classed → ℕ → ℕ
summed_cost w k = sum₀ w.classes (λ c. of_arc (class_costs w c) k)

unfoldable pub summed_costs : Classed → List ℕ
summed_costs w = list (length w.parents) (summed_cost w)

-- the tree with the summed costs
abbrev pub summed_tree : Classed → Tree
summed_tree w = tree_of w.parents (summed_costs w) w.marks

-- the number of members
abbrev pub class_members : Classed → ℕ
class_members w = member_count (network (summed_tree w))

-- 32, 1, 2 where the costs are not one an arc and class, and then the tree with the summed costs: a class is never
-- above the sum
unfoldable pub classed_check : Classed → Check
classed_check w =
    count_check most_classes 32 w.classes
    then arc_count_check w.parents
    then fault (not (eqb (length w.costs) (w.classes * length w.parents))) 2 0
    then tree_check (summed_tree w)

-- 8 last: one share a member and class
abbrev pub classes_check : Classed → List ℕ → Check
classes_check w out = classed_check w then output_check (w.classes * class_members w) out

-- the lists f 0, f 1, .., f (n - 1), one behind another
unfoldable pub joined : ℕ → (ℕ → List ℕ) → List ℕ
joined zero f = []
joined (suc n) f = joined n f ++ f n

-- the shares of class c
abbrev pub class_shares : Classed → ℕ → List ℕ
class_shares w c = by_arc (network (class_tree w c))

-- what is paid in class c, and what it costs
abbrev pub paid_in : Classed → ℕ → ℕ
paid_in w c = total (λ x. x) (class_shares w c)

abbrev pub cost_in : Classed → ℕ → ℕ
cost_in w c = whole_cost (network (class_tree w c))

-- four totals, one a class, 0 for a class that is not in use
abbrev pub by_class : ℕ → (ℕ → ℕ) → List ℕ
by_class classes f = entries most_classes (λ c. pick (ltb c classes) (f c))

-- the number of members
unfoldable pub classes_answer : Classed → List ℕ → Answer ℕ
classes_answer w out = answer (classes_check w out) (class_members w)

-- the shares, class after class
unfoldable pub classes_list : Classed → List ℕ → List ℕ
classes_list w out = written (classes_check w out) out (joined w.classes (class_shares w))

-- the totals paid, then those of cost; all 0 beside a refusal
unfoldable pub classes_totals : Classed → List ℕ → List ℕ
classes_totals w out =
    written (classes_check w out) (replicate 8 0)
    (by_class w.classes (paid_in w) ++ by_class w.classes (cost_in w))
