use mathlib.Core.Path.{sym, ap, ◌∙◌}
use Rattle.game.specs.Network.{member_count}
use Rattle.game.specs.Tree.{Tree, network}
use Rattle.answer_forms.specs.Answer.{written}
use Rattle.answers.specs.Checks.{tree_check}
use Rattle.answers.specs.Members.{member_count_answer}
use Rattle.answers.specs.States.{made_state}
use Rattle.events.specs.Outcomes.{state_of}
use Rattle.events.proofs.Arrays.{part_tree}
use Rattle.events.proofs.apply.carry_out.Goals as goal

pub split_into_state-requires : goal.split_into_state-requires
split_into_state-requires c =
    record {
      members_value = c.requires.members_value
          ∙ ap (λ (t : Tree). member_count (network t)) (sym (part_tree (state_of c.args.next.now)));
      members_le_most_arcs = c.requires.members_le_most_arcs;
    }

pub returns : goal.returns
returns c =
    let part = part_tree (state_of c.args.next.now) in
    record {
      answer_value = c.split_into_state.ensures.answer_value ∙ ap member_count_answer part;
      state_value = c.split_into_state.ensures.state_value
          ∙ ap (λ (t : Tree). written (tree_check t) (state_of c.args.out.now) (made_state t c.args.committed)) part;
    }
