-- The by-arc split: its answer and the list that it writes.
use Rattle.std.specs.Prelude.{ℕ, List}
use Rattle.game.specs.Network.{member_count}
use Rattle.game.specs.Tree.{Tree, network}
use Rattle.game.specs.ByArc.{by_arc}
use Rattle.answer_forms.specs.Answer.{Answer, answer, written}
use Rattle.answers.specs.Members.{members_check}

-- the number of members
unfoldable pub by_arc_answer : Tree → List ℕ → Answer ℕ
by_arc_answer t out = answer (members_check t out) (member_count (network t))

unfoldable pub by_arc_list : Tree → List ℕ → List ℕ
by_arc_list t out = written (members_check t out) out (by_arc (network t))
