-- The number of members, and the members' vertices in a lent list.
use Rattle.std.specs.Prelude.{ℕ, List}
use Rattle.game.specs.Network.{member_count, members}
use Rattle.game.specs.Tree.{Tree, network}
use Rattle.answer_forms.specs.Answer.{Check, Answer, ◌then◌, answer, written}
use Rattle.answers.specs.Checks.{tree_check, output_check}

unfoldable pub member_count_answer : Tree → Answer ℕ
member_count_answer t = answer (tree_check t) (member_count (network t))

-- 8 after the tree
abbrev pub members_check : Tree → List ℕ → Check
members_check t out = tree_check t then output_check (member_count (network t)) out

unfoldable pub members_answer : Tree → List ℕ → Answer ℕ
members_answer t out = answer (members_check t out) (member_count (network t))

unfoldable pub members_list : Tree → List ℕ → List ℕ
members_list t out = written (members_check t out) out (members (network t))
