-- Nobody pays for a stub, in any class.
use Prim.Native.Nat.{ℕ, ◌*◌, ◌<◌}
use mathlib.Core.Path.{◌≡◌, ap, ap₂, ◌∙◌}
use mathlib.Core.List.{List, [], ◌++◌}
use borrow.Author.Tests.{ltb-true}
use lib.ListN.{replicate}
use lib.Dec.{ltb}
use Rattle.basics.specs.Sum.{pick, total}
use Rattle.basics.proofs.Bools.{pick_same}
use Rattle.basics.proofs.Lists.{entries_length, entries_at, entries_are}
use Rattle.game.specs.Network.{Network, used, member_count, whole_cost}
use Rattle.game.specs.Tree.{network_of, network}
use Rattle.game.specs.ByArc.{by_arc}
use Rattle.limits.specs.Limits.{most_classes}
use Rattle.answer_forms.specs.Answer.{Check, accepted, answer, written}
use Rattle.answers.specs.Checks.{output_check}
use Rattle.answers.specs.Classes.{Classed, class_tree, class_members, classed_check, classes_check, joined}
use Rattle.answers.specs.Classes.{class_shares}
use Rattle.answers.specs.Classes.{by_class, classes_answer, classes_list, classes_totals}
use Rattle.answers.specs.ClassesLaws.{DifferInStubs, StubClassStatement}
use Rattle.answers.proofs.Unused.{same_network}
use Rattle.answers.proofs.ClassParts.{joined_cong}

-- totals that agree in the classes in use
by_class_same : (classes : ℕ) (f g : ℕ → ℕ) → ((c : ℕ) → c < classes → f c ≡ g c)
    → by_class classes f ≡ by_class classes g
by_class_same classes f g same =
    entries_are (at g) 0 most_classes (by_class classes f) (entries_length (at f) most_classes)
    (λ c h.
    entries_at (at f) 0 most_classes c h ∙ pick_same (ltb c classes) (λ e. same c (ltb-true c classes e)))
  where
    at : (ℕ → ℕ) → ℕ → ℕ
    at x c = pick (ltb c classes) (x c)

module _ (v w : Classed) (v_ok : classed_check v ≡ accepted) (w_ok : classed_check w ≡ accepted)
    (differ : DifferInStubs v w) where
  same_members : class_members v ≡ class_members w
  same_members =
      ap₂ (λ (ps ms : List ℕ). member_count (network_of ps [] ms)) differ.same_parents differ.same_marks

  class_network : (c : ℕ) → c < v.classes → network (class_tree v c) ≡ network (class_tree w c)
  unfolding used
  class_network c h =
      same_network (class_tree v c) (class_tree w c)
      (record {
        same_parents = differ.same_parents;
        same_marks = differ.same_marks;
        same_used = λ k i u. differ.same_used c h k (record { first = i.first; last = i.last }) u;
      })

  same_check : (out : List ℕ) → classes_check v out ≡ classes_check w out
  same_check out =
      rw (v_ok, w_ok) (ap₂ (λ (k n : ℕ). output_check (k * n) out) differ.same_classes same_members)

  -- what looks only at the check, the number of classes and each class's network
  same_list : joined v.classes (class_shares v) ≡ joined w.classes (class_shares w)
  same_list =
      joined_cong v.classes (class_shares v) (class_shares w) (λ c h. ap by_arc (class_network c h))
      ∙ ap (λ (k : ℕ). joined k (class_shares w)) differ.same_classes

  same_totals : (f : Network → ℕ)
      → by_class v.classes (λ c. f (network (class_tree v c)))
      ≡ by_class w.classes (λ c. f (network (class_tree w c)))
  same_totals f =
      by_class_same v.classes (λ c. f (network (class_tree v c))) (λ c. f (network (class_tree w c)))
      (λ c h. ap f (class_network c h))
      ∙ ap (λ (k : ℕ). by_class k (λ c. f (network (class_tree w c)))) differ.same_classes

pub stub_classes : StubClassStatement
unfolding classes_answer classes_list classes_totals
stub_classes v w v_ok w_ok differ =
    record {
      answer = λ out. ap₂ answer (same_check v w v_ok w_ok differ out) (same_members v w v_ok w_ok differ);
      list = λ out.
          ap₂ (λ (c : Check) (l : List ℕ). written c out l) (same_check v w v_ok w_ok differ out)
          (same_list v w v_ok w_ok differ);
      totals = λ out.
          ap₂ (λ (c : Check) (l : List ℕ). written c (replicate 8 0) l) (same_check v w v_ok w_ok differ out)
          (ap₂ (λ (a b : List ℕ). a ++ b) (same_totals v w v_ok w_ok differ (λ n. total (λ x. x) (by_arc n)))
          (same_totals v w v_ok w_ok differ whole_cost));
    }
