-- The members of a tree whose costs in classes are accepted.
use Prim.Native.Nat.{ℕ, ◌*◌, ◌≤◌}
use mathlib.Core.Path.{◌≡◌, sym}
use mathlib.Core.List.{List}
use lib.ListN.{length}
use Rattle.basics.specs.Sum.{count}
use Rattle.limits.specs.Limits.{most_arcs}
use Rattle.game.specs.Tree.{marked}
use Rattle.answer_forms.specs.Answer.{accepted, value}
use Rattle.answer_forms.proofs.Composed.{first_accepted, second_accepted, answered}
use Rattle.answers.specs.Checks.{tree_check, output_check}
use Rattle.answers.specs.Classes.{Classed, summed_tree, class_members, classed_check, classes_check, classes_answer}
use Rattle.answers.proofs.Classed.{summed_accepted}
use Rattle.tree.proofs.MembersListed.{members_few}
use Rattle.tree.proofs.TreeAccepted.{accepted_sound, accepted_count}

module _ (w : Classed) (ok : classed_check w ≡ accepted) where
  tree_ok : tree_check (summed_tree w) ≡ accepted
  tree_ok = summed_accepted w ok

  pub members_counted : count (length w.marks) (marked w.marks) ≡ class_members w
  members_counted = accepted_count (summed_tree w) tree_ok

  pub class_members_few : class_members w ≤ most_arcs
  class_members_few = members_few w.parents w.marks (accepted_sound (summed_tree w) tree_ok)

-- what is known where the answer is a number of members
pub record Taken (w : Classed) (out : List ℕ) (members : ℕ) : Type 0 where
  pub classed : classed_check w ≡ accepted
  pub sized : output_check (w.classes * class_members w) out ≡ accepted
  pub counted : members ≡ class_members w

pub classes_taken : (w : Classed) (out : List ℕ) {members : ℕ} → value members ≡ classes_answer w out → Taken w out members
unfolding classes_answer
classes_taken w out e =
    let both = answered (classes_check w out) (class_members w) _ (sym e) in
    record {
      classed = first_accepted _ _ both.0;
      sized = second_accepted (classed_check w) _ both.0;
      counted = both.1;
    }
