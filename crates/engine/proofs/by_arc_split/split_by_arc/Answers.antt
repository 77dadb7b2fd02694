use mathlib.Core.Path.{sym, ◌≡◌}
use Rattle.game.specs.Tree.{tree_of, Tree}
use Rattle.answer_forms.specs.Answer.{accepted}
use Rattle.answers.specs.Checks.{tree_check}
use Rattle.answers.specs.ByArc.{by_arc_answer, by_arc_list}
use Rattle.tree.proofs.LocalCosts.{counted_part}
use Rattle.tree.proofs.TreeAccepted.{accepted_sound, counted_lent, accepted_lists}
use Rattle.engine.proofs.by_arc_split.split_by_arc.Goals as goal

pub slice_bounds-counted-end : goal.slice_bounds-counted-end
slice_bounds-counted-end c =
    let tree : Tree = let given = c.args in
    tree_of given.parents.now given.costs.now given.marks.now in
    let accepted_tree : tree_check (tree) ≡ accepted = sym c.in_ok-check_tree.ensures in
    (accepted_sound (tree) (accepted_tree)).few

pub write_counted-requires : goal.write_counted-requires
write_counted-requires c =
    let tree : Tree = let given = c.args in
    tree_of given.parents.now given.costs.now given.marks.now in
    let accepted_tree : tree_check (tree) ≡ accepted = sym c.in_ok-check_tree.ensures in
    let it = counted_lent _ (accepted_tree) in
    record { sound = it.0; costed = it.1.0; marked = it.1.1.0; out_len = it.1.1.1 }

pub split_in_tree-requires : goal.split_in_tree-requires
split_in_tree-requires c =
    let tree : Tree = let given = c.args in
    tree_of given.parents.now given.costs.now given.marks.now in
    let accepted_tree : tree_check (tree) ≡ accepted = sym c.in_ok-check_tree.ensures in
    let it = accepted_lists _ (accepted_tree) c.write_counted.ensures _ in
    record { sound = it.0; costed = it.1.0; marked = it.1.1 }

pub returns : goal.returns
unfolding by_arc_answer by_arc_list
returns c =
    let tree : Tree = let given = c.args in
    tree_of given.parents.now given.costs.now given.marks.now in
    let accepted_tree : tree_check (tree) ≡ accepted = sym c.in_ok-check_tree.ensures in
    let ok = accepted_tree in
    let part = counted_part (tree) c.write_counted.ensures in
    let inner = c.split_in_tree.ensures in
    record { result_value = rw ok inner.result_value; out_after = rw ok (rw part at inner.out_after) }
