use mathlib.Core.Path.{sym, ◌≡◌, ◌∙◌}
use lib.ListN.{length}
use Rattle.game.specs.Network.{whole_cost, sum_below}
use Rattle.answer_forms.specs.Answer.{accepted}
use Rattle.answers.specs.Checks.{length_check}
use Rattle.tree.proofs.MembersListed.{marks_count}
use Rattle.engine.proofs.needs.list_in_tree.Goals as goal

pub returns : goal.returns
unfolding whole_cost sum_below
returns c =
    let accepted_output : length_check (length c.args.parents.now) (length c.args.out.now) ≡ accepted =
    sym c.in_ok-check_output.ensures in
    let list = accepted_output in
    let count = c.count_members-members.ensures
    ∙ marks_count _ _ c.requires.marked in
    record {
      result_value = rw (list, count, c.write_needs-whole.ensures.value);
      out_after = rw list c.write_needs-whole.ensures.out_after;
    }
