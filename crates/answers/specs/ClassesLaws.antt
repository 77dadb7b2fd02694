-- Demand 2 of cost classes, about the answers and lists of their split: each class by itself, and all of them together.
use Rattle.std.specs.Prelude.{ℕ, ◌+◌, ◌*◌, ◌≤◌, ◌<◌, ◌≡◌, true, List, map, length, get_or, pos}
use Rattle.basics.specs.Sum.{sum₀, entries, total}
use Rattle.game.specs.Network.{used, everyone, whole_cost}
use Rattle.game.specs.Tree.{tree_of, of_arc, network}
use Rattle.game.specs.Core.{Core}
use Rattle.limits.specs.Limits.{most_classes}
use Rattle.answer_forms.specs.Answer.{accepted}
use Rattle.answers.specs.Checks.{tree_check}
use Rattle.answers.specs.Laws.{ArcOf}
use Rattle.answers.specs.Audit.{Passes}
use Rattle.answers.specs.ByArc.{by_arc_answer, by_arc_list}
use Rattle.answers.specs.ByArcLaws.{ByArcLaws}
use Rattle.answers.specs.Classes.{Classed, classed_of, part, class_costs, class_tree, summed_costs, summed_tree}
use Rattle.answers.specs.Classes.{class_members, classed_check, classes_check}
use Rattle.answers.specs.Classes.{classes_answer, classes_list, classes_totals}

-- the shares of class c in the list
abbrev pub shares_in : Classed → List ℕ → ℕ → List ℕ
shares_in w out c = part (class_members w) c (classes_list w out)

-- each member's shares added over the classes
abbrev pub added_shares : Classed → List ℕ → List ℕ
added_shares w out = entries (class_members w) (λ j. sum₀ w.classes (λ c. get_or (shares_in w out c) j 0))

-- of class c, which is in use
pub record ClassLaws (w : Classed) (out : List ℕ) (c : ℕ) : Type 0 where
  pub tree : tree_check (class_tree w c) ≡ accepted
  -- its shares add up, are in the core, pass the audit and are near the Shapley value, all of the class's tree, and its
  -- units left over are given in turn
  pub by_arc_laws : ByArcLaws (class_tree w c) (shares_in w out c)
  -- the table has what is paid in the class and what it costs, and these are equal
  pub paid : get_or (classes_totals w out) c 0 ≡ total (λ x. x) (shares_in w out c)
  pub cost : get_or (classes_totals w out) (most_classes + c) 0 ≡ whole_cost (network (class_tree w c))
  pub equal : get_or (classes_totals w out) c 0 ≡ get_or (classes_totals w out) (most_classes + c) 0

pub record ClassesLaws (w : Classed) (out : List ℕ) : Type 0 where
  -- one share a member and class
  pub all_shares : length (classes_list w out) ≡ w.classes * class_members w
  pub each : (c : ℕ) → c < w.classes → ClassLaws w out c
  -- a class that is not in use
  pub none_paid : (c : ℕ) → w.classes ≤ c → c < most_classes → get_or (classes_totals w out) c 0 ≡ 0
  pub no_cost : (c : ℕ) → w.classes ≤ c → c < most_classes → get_or (classes_totals w out) (most_classes + c) 0 ≡ 0
  -- the shares added over the classes: on the tree with the summed costs the difference is 0 and no group is found
  pub summed : tree_check (summed_tree w) ≡ accepted
  pub in_core : Core (network (summed_tree w)) (map pos (added_shares w out))
  pub passes : Passes (summed_tree w) (map pos (added_shares w out))

abbrev pub ClassesStatement : Type 0
ClassesStatement = (w : Classed) (out : List ℕ) → classes_check w out ≡ accepted → ClassesLaws w out

-- at each arc a class is at most the sum, so that a class above the limit is refused with the sum
abbrev pub ClassAtMostStatement : Type 0
ClassAtMostStatement = (w : Classed) (c k : ℕ) → c < w.classes → of_arc (class_costs w c) k ≤ of_arc (summed_costs w) k

-- one class is the by-arc split, for any lists
pub record OneClass (parents costs marks out : List ℕ) : Type 0 where
  pub answer : classes_answer (classed_of parents costs marks 1) out ≡ by_arc_answer (tree_of parents costs marks) out
  pub list : classes_list (classed_of parents costs marks 1) out ≡ by_arc_list (tree_of parents costs marks) out

abbrev pub OneClassStatement : Type 0
OneClassStatement = (parents costs marks out : List ℕ) → OneClass parents costs marks out

-- the trees differ only in costs of arcs that nobody uses, in any class
pub record DifferInStubs (v w : Classed) : Type 0 where
  pub same_parents : v.parents ≡ w.parents
  pub same_marks : v.marks ≡ w.marks
  pub same_classes : v.classes ≡ w.classes
  pub same_used : (c : ℕ) → c < v.classes → (k : ℕ) → ArcOf (summed_tree v) k
      → used (network (summed_tree v)) everyone k ≡ true → of_arc (class_costs v c) k ≡ of_arc (class_costs w c) k

-- nobody pays for a stub, in any class
pub record SameClasses (v w : Classed) : Type 0 where
  pub answer : (out : List ℕ) → classes_answer v out ≡ classes_answer w out
  pub list : (out : List ℕ) → classes_list v out ≡ classes_list w out
  pub totals : (out : List ℕ) → classes_totals v out ≡ classes_totals w out

abbrev pub StubClassStatement : Type 0
StubClassStatement = (v w : Classed) → classed_check v ≡ accepted → classed_check w ≡ accepted → DifferInStubs v w
    → SameClasses v w
