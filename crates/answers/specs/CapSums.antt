-- The running sums of caps in a lent list, one an arc; the sum of all caps.
use Rattle.std.specs.Prelude.{ℕ, cond, List, length, get_or}
use Rattle.basics.specs.Sum.{sum₀, list}
use Rattle.game.specs.Network.{Network, number, member_count}
use Rattle.game.specs.Tree.{Tree, network}
use Rattle.game.specs.Inward.{inward}
use Rattle.answer_forms.specs.Answer.{Check, Answer, ◌then◌, answer, written}
use Rattle.answers.specs.Checks.{tree_check, output_check}
use Rattle.answers.specs.Level.{caps_check}

-- an arc's running sum of caps: at a member's arc its cap, elsewhere the running sums of its child arcs added up, 0
-- where there are none
abbrev pub running_sum : Network → List ℕ → ℕ → ℕ
running_sum n caps = inward n (λ k below. cond (n.member k) (get_or caps (number n k) 0) below)

-- what all caps add up to
abbrev pub all_caps : List ℕ → ℕ
all_caps caps = sum₀ (length caps) (λ j. get_or caps j 0)

-- 6 and 7 on caps after the tree, then 8
abbrev pub cap_sums_check : Tree → List ℕ → List ℕ → Check
cap_sums_check t caps out =
    tree_check t then caps_check (member_count (network t)) caps then output_check (length t.parents) out

unfoldable pub cap_sums_answer : Tree → List ℕ → List ℕ → Answer ℕ
cap_sums_answer t caps out = answer (cap_sums_check t caps out) (all_caps caps)

unfoldable pub cap_sums_list : Tree → List ℕ → List ℕ → List ℕ
cap_sums_list t caps out =
    written (cap_sums_check t caps out) out (list (length t.parents) (running_sum (network t) caps))
