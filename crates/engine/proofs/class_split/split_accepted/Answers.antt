use mathlib.Core.Path.{◌≡◌, sym, ◌∙◌}
use Rattle.answer_forms.specs.Answer.{accepted}
use Rattle.answers.specs.Checks.{tree_check}
use Rattle.answers.specs.Classes.{Classed, classed_of, summed_tree}
use Rattle.answers.proofs.Classed.{summed_accepted}
use Rattle.tree.specs.Passes.{Marked}
use Rattle.tree.proofs.MembersListed.{marks_count}
use Rattle.tree.proofs.TreeAccepted.{accepted_sound, accepted_marked}
use Rattle.engine.proofs.class_split.split_accepted.Goals as goal

pub write_members-requires : goal.write_members-requires
write_members-requires c =
    let given : Classed = classed_of c.args.parents.now c.args.costs.now c.args.marks.now c.args.classes in
    let tree_ok : tree_check (summed_tree (given)) ≡ accepted = summed_accepted (given) c.requires.classes_value in
    let marks : Marked (given).parents (given).marks = accepted_marked (summed_tree (given)) (tree_ok) in
    record {
      marks_len_bound = rw (marks).sized (accepted_sound (summed_tree (given)) (tree_ok)).few;
      out_len = c.requires.vertices_len ∙ sym (marks_count _ _ (marks));
    }
