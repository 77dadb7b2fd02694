use Prim.Native.Nat.{ℕ}
use mathlib.Core.Path.{◌≡◌, sym, subst}
use mathlib.Core.Bool.{true, not}
use mathlib.Core.List.{List}
use borrow.Author.Tests.{not-false}
use Rattle.game.specs.Tree.{Tree, tree_of, network}
use Rattle.game.proofs.Branched.{Branched}
use Rattle.answer_forms.specs.Answer.{accepted}
use Rattle.answer_forms.proofs.Composed.{no_fault}
use Rattle.answers.specs.Checks.{tree_check}
use Rattle.answers.specs.Margin.{leaves_source}
use Rattle.answers.proofs.BranchLaws.{leaves_accepted, branch_whole}
use Rattle.basics.proofs.Lists.{zeros_length}
use Rattle.limits.specs.Limits.{most_arcs}
use Rattle.tree.specs.Passes.{Marked}
use Rattle.tree.proofs.TreeAccepted.{accepted_sound, accepted_costed, accepted_marked}
use Rattle.engine.proofs.BranchSplit.{branch_marked, marks_part, branch_answer, branch_list}
use Rattle.engine.proofs.margin_split.split_margin.Goals as goal

pub slice_bounds-branch-end : goal.slice_bounds-branch-end
slice_bounds-branch-end c =
    let tree : Tree = tree_of c.args.parents.now c.args.costs.now c.args.marks.now in
    let accepted_tree : tree_check (tree) ≡ accepted = sym c.in_ok-check_tree.ensures in
    (accepted_sound _ (accepted_tree)).few

pub write_branch_marks-requires : goal.write_branch_marks-requires
write_branch_marks-requires c =
    let tree : Tree = tree_of c.args.parents.now c.args.costs.now c.args.marks.now in
    let accepted_tree : tree_check (tree) ≡ accepted = sym c.in_ok-check_tree.ensures in
    let leaves : leaves_source c.args.parents.now c.args.arc ≡ true =
    let from = leaves_source c.args.parents.now c.args.arc in
    let found = sym c.in_ok-check_branch_arc.ensures in
    not-false from (no_fault (not from) 25 c.args.arc found) in
    let ok = accepted_tree in
    let sound = accepted_sound _ ok in
    record {
      sound = sound;
      marks_len = (accepted_marked _ ok).sized;
      fact = (leaves_accepted c.args.parents.now c.args.arc (leaves)).0;
      out_len = zeros_length most_arcs _ sound.few;
    }

pub split_branch-requires : goal.split_branch-requires
split_branch-requires c =
    let tree : Tree = tree_of c.args.parents.now c.args.costs.now c.args.marks.now in
    let accepted_tree : tree_check (tree) ≡ accepted = sym c.in_ok-check_tree.ensures in
    let BranchedAt : List ℕ → Type 0 =
    λ marks. Branched (network (tree_of c.args.parents.now c.args.costs.now marks)) c.args.arc in
    let leaves : leaves_source c.args.parents.now c.args.arc ≡ true =
    let from = leaves_source c.args.parents.now c.args.arc in
    let found = sym c.in_ok-check_branch_arc.ensures in
    not-false from (no_fault (not from) 25 c.args.arc found) in
    let ok = accepted_tree in
    let same = sym (marks_part (tree) ok c.args.arc c.write_branch_marks.ensures _) in
    record {
      sound = accepted_sound _ ok;
      costed = accepted_costed _ ok;
      marked = subst (Marked c.args.parents.now) same (branch_marked (tree) ok c.args.arc);
      branched = subst (BranchedAt) same (branch_whole (tree) c.args.arc ok (leaves));
    }

pub returns : goal.returns
returns c =
    let tree : Tree = tree_of c.args.parents.now c.args.costs.now c.args.marks.now in
    let accepted_tree : tree_check (tree) ≡ accepted = sym c.in_ok-check_tree.ensures in
    let leaves : leaves_source c.args.parents.now c.args.arc ≡ true =
    let from = leaves_source c.args.parents.now c.args.arc in
    let found = sym c.in_ok-check_branch_arc.ensures in
    not-false from (no_fault (not from) 25 c.args.arc found) in
    let ok = accepted_tree in
    let same = marks_part (tree) ok c.args.arc c.write_branch_marks.ensures in
    let inner = c.split_branch.ensures in
    record {
      result_value = branch_answer (tree) ok c.args.arc (leaves) c.args.out.now (rw same at inner.result_value);
      out_after = branch_list (tree) ok c.args.arc (leaves) c.args.out.now (rw same at inner.out_after);
    }
