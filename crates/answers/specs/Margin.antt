-- The widest margin in a branch: its answer, and the users' shares in a lent list.
use Rattle.std.specs.Prelude.{ℕ, Bool, not, ◌&&◌, List, length, eqb, ltb, leb}
use Rattle.game.specs.Network.{Network}
use Rattle.game.specs.Tree.{Tree, of_arc, network}
use Rattle.game.specs.Branch.{branch}
use Rattle.game.specs.ByArc.{user_count}
use Rattle.game.specs.Margin.{widest, shares_at}
use Rattle.answer_forms.specs.Answer.{Check, Answer, fault, ◌then◌, answer, written}
use Rattle.answers.specs.Checks.{tree_check, output_check}

pub record MarginValue : Type 0 where
  pub margin : ℕ
  pub users : ℕ

-- the number is that of an arc, and the arc leaves the source
abbrev pub leaves_source : List ℕ → ℕ → Bool
leaves_source parents arc = leb 1 arc && (leb arc (length parents) && eqb (of_arc parents arc) 0)

-- the branch of an arc as a network: its members are the arc's users
abbrev pub branch_at : Tree → ℕ → Network
branch_at t arc = network (branch t arc)

-- 25 and 26 at the arc after the tree, then 8
abbrev pub margin_check : Tree → ℕ → List ℕ → Check
margin_check t arc out =
    tree_check t
    then fault (not (leaves_source t.parents arc)) 25 arc
    then fault (ltb (user_count (network t) arc) 2) 26 arc
    then output_check (user_count (network t) arc) out

unfoldable pub margin_answer : Tree → ℕ → List ℕ → Answer MarginValue
margin_answer t arc out =
    answer (margin_check t arc out)
    (record { margin = widest (branch_at t arc) arc; users = user_count (network t) arc })

unfoldable pub margin_list : Tree → ℕ → List ℕ → List ℕ
margin_list t arc out =
    written (margin_check t arc out) out (shares_at (branch_at t arc) (widest (branch_at t arc) arc))
