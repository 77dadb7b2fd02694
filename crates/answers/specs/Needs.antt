-- The needs of all arcs in a lent list; the whole cost and the number of members.
use Rattle.std.specs.Prelude.{ℕ, List, length}
use Rattle.basics.specs.Sum.{list}
use Rattle.game.specs.Network.{need, whole_cost, member_count}
use Rattle.game.specs.Tree.{Tree, network}
use Rattle.answer_forms.specs.Answer.{Check, Answer, ◌then◌, answer, written}
use Rattle.answers.specs.Checks.{tree_check, output_check}

pub record NeedsValue : Type 0 where
  pub whole : ℕ
  pub members : ℕ

-- 8 after the tree
abbrev pub needs_check : Tree → List ℕ → Check
needs_check t out = tree_check t then output_check (length t.parents) out

unfoldable pub needs_answer : Tree → List ℕ → Answer NeedsValue
needs_answer t out =
    answer (needs_check t out) (record { whole = whole_cost (network t); members = member_count (network t) })

unfoldable pub needs_list : Tree → List ℕ → List ℕ
needs_list t out = written (needs_check t out) out (list (length t.parents) (need (network t)))
