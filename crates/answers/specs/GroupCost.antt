-- A group's size and cost.
use Rattle.std.specs.Prelude.{ℕ, List}
use Rattle.game.specs.Network.{group_cost, member_count}
use Rattle.game.specs.Tree.{Tree, network}
use Rattle.basics.specs.Bit.{bit}
use Rattle.game.specs.Group.{group_by_number}
use Rattle.basics.specs.Sum.{size}
use Rattle.answer_forms.specs.Answer.{Answer, ◌then◌, answer}
use Rattle.answers.specs.Checks.{tree_check, group_check}

pub record GroupCostValue : Type 0 where
  pub size : ℕ
  pub cost : ℕ

-- 5 after the tree
unfoldable pub group_cost_answer : Tree → List ℕ → Answer GroupCostValue
group_cost_answer t words =
    answer (tree_check t then group_check (member_count (network t)) words)
    (record {
      size = size (member_count (network t)) (bit words);
      cost = group_cost (network t) (group_by_number (network t) (bit words));
    })
