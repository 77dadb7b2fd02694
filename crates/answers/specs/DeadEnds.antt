-- The marks of the dead ends, for trees without spare plots, in a lent list.
use Rattle.std.specs.Prelude.{ℕ, ◌≡◌, List, length}
use Rattle.game.specs.Network.{member_count}
use Rattle.game.specs.Tree.{tree_of, dead_ends, network, dead_end_tree}
use Rattle.answer_forms.specs.Answer.{Check, Answer, accepted, ◌then◌, answer, written}
use Rattle.answers.specs.Checks.{tree_check, plain_check, output_check}

-- 8 after 1 to 4
abbrev pub dead_ends_check : List ℕ → List ℕ → List ℕ → Check
dead_ends_check parents costs out = plain_check parents costs then output_check (length parents) out

-- the number of members
unfoldable pub dead_ends_answer : List ℕ → List ℕ → List ℕ → Answer ℕ
dead_ends_answer parents costs out =
    answer (dead_ends_check parents costs out) (member_count (network (dead_end_tree parents costs)))

unfoldable pub dead_ends_list : List ℕ → List ℕ → List ℕ → List ℕ
dead_ends_list parents costs out = written (dead_ends_check parents costs out) out (dead_ends parents)

-- on all lists: where the dead ends are marked, the tree's check finds what 1 to 4 find
abbrev pub PlainStatement : Type 0
PlainStatement = (parents costs : List ℕ) → tree_check (dead_end_tree parents costs) ≡ plain_check parents costs

-- the tree with the marks that were written is accepted
abbrev pub DeadEndsStatement : Type 0
DeadEndsStatement = (parents costs out : List ℕ) → dead_ends_check parents costs out ≡ accepted
    → tree_check (tree_of parents costs (dead_ends_list parents costs out)) ≡ accepted
