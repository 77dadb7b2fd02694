use mathlib.Core.Path.{sym, ◌≡◌}
use Rattle.game.specs.Tree.{tree_of, Tree}
use Rattle.answer_forms.specs.Answer.{accepted}
use Rattle.answers.specs.Checks.{tree_check}
use Rattle.tree.proofs.LocalCosts.{counted_part}
use Rattle.tree.proofs.TreeAccepted.{accepted_sound, counted_lent, accepted_lists}
use Rattle.engine.proofs.LevelAnswer.{tree_taken}
use Rattle.engine.proofs.level_split.split_level.Goals as goal

pub slice_bounds-counted-end : goal.slice_bounds-counted-end
slice_bounds-counted-end c =
    let tree : Tree = tree_of c.args.parents.now c.args.costs.now c.args.marks.now in
    let accepted_tree : tree_check (tree) ≡ accepted = sym c.in_ok-check_tree.ensures in
    (accepted_sound (tree) (accepted_tree)).few

pub write_counted-requires : goal.write_counted-requires
write_counted-requires c =
    let tree : Tree = tree_of c.args.parents.now c.args.costs.now c.args.marks.now in
    let accepted_tree : tree_check (tree) ≡ accepted = sym c.in_ok-check_tree.ensures in
    let it = counted_lent _ (accepted_tree) in
    record { sound = it.0; costed = it.1.0; marked = it.1.1.0; out_len = it.1.1.1 }

pub split_in_tree-requires : goal.split_in_tree-requires
split_in_tree-requires c =
    let tree : Tree = tree_of c.args.parents.now c.args.costs.now c.args.marks.now in
    let accepted_tree : tree_check (tree) ≡ accepted = sym c.in_ok-check_tree.ensures in
    let it = accepted_lists _ (accepted_tree) c.write_counted.ensures _ in
    record { sound = it.0; costed = it.1.0; marked = it.1.1 }

pub returns : goal.returns
returns c =
    let tree : Tree = tree_of c.args.parents.now c.args.costs.now c.args.marks.now in
    let accepted_tree : tree_check (tree) ≡ accepted = sym c.in_ok-check_tree.ensures in
    let part = counted_part (tree) c.write_counted.ensures in
    let inner = c.split_in_tree.ensures in
    let it = tree_taken (tree) c.args.caps.now c.args.floors.now c.args.out.now
    (accepted_tree) (rw part at inner.result_value) (rw part at inner.out_after) in
    record {
      result_value = it.0;
      out_after = it.1;
    }
