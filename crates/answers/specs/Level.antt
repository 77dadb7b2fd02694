-- The level split under caps and floors: its answer and the list that it writes.
use Rattle.std.specs.Prelude.{ℕ, zero, suc, pred, ◌-◌, Bool, cond, ◌&&◌, List, get_or, eqb, ltb}
use Rattle.basics.specs.Sum.{pick}
use Rattle.game.specs.Network.{Network, sum_below, need, number, member_count}
use Rattle.game.specs.Tree.{Tree, network, of_arc}
use Rattle.game.specs.Inward.{amount_of}
use Rattle.game.specs.Floors.{adjusted}
use Rattle.game.specs.Level.{level}
use Rattle.answer_forms.specs.Answer.{Check, accepted, refused, fault, ◌then◌}
use Rattle.answers.specs.Checks.{tree_check, member_list_check, one_by_one, output_check}
use Rattle.limits.specs.Limits.{most_share}

-- the split's answer: the number of members, or a refusal with the shortfall, which is 0 except with 9
pub data LevelAnswer : Type 0 where
  split : (members : ℕ) → LevelAnswer
  refusal : (number place shortfall : ℕ) → LevelAnswer

-- what the caps of an arc's users add up to
abbrev pub cap_sum : Network → List ℕ → ℕ → ℕ
cap_sum n caps = sum_below n (λ v. pick (n.member v) (get_or caps (number n v) 0))

-- 6 and 7 on caps, and on floors, which have the same range
abbrev pub outside_cap : ℕ → Bool
outside_cap cap = ltb most_share cap

abbrev pub caps_check : ℕ → List ℕ → Check
caps_check = member_list_check outside_cap

-- 27 at the lowest member whose floor is above its cap; entry i of a list, from 1 on, is that of member i - 1
abbrev pub floors_check : ℕ → List ℕ → List ℕ → Check
floors_check members caps floors = one_by_one (λ i. fault (ltb (of_arc caps i) (of_arc floors i)) 27 (pred i)) members

-- 6 and 7 on caps, 6 and 7 on floors, then 27
abbrev pub limits_check : ℕ → List ℕ → List ℕ → Check
limits_check members caps floors =
    caps_check members caps then caps_check members floors then floors_check members caps floors

-- the caps and the floors after the tree, then 8
abbrev pub level_check : Tree → List ℕ → List ℕ → List ℕ → Check
level_check t caps floors out =
    tree_check t then limits_check (member_count (network t)) caps floors then output_check (member_count (network t)) out

-- at arc k 9, where its users' caps add up to less than the adjusted need, then 28, where the arc leaves the source and
-- the adjusted need is above the need; else what the next arc answers
abbrev pub stop_or : (k parent need adjusted caps : ℕ) → LevelAnswer → LevelAnswer
stop_or k parent need adjusted caps next =
    cond (ltb caps adjusted) (refusal 9 k (adjusted - caps))
    (cond (eqb parent 0 && ltb need adjusted) (refusal 28 k 0) next)

-- the arcs from k down: the first that stops the split, or the number of members
unfoldable pub split_from : Network → List ℕ → List ℕ → ℕ → LevelAnswer
split_from n caps floors zero = split (member_count n)
split_from n caps floors (suc k) =
    stop_or (suc k) (n.parent (suc k)) (need n (suc k)) (adjusted n floors (suc k)) (cap_sum n caps (suc k))
    (split_from n caps floors k)

abbrev pub level_or : Check → LevelAnswer → LevelAnswer
level_or accepted answer = answer
level_or (refused number place) answer = refusal number place 0

unfoldable pub level_answer : Tree → List ℕ → List ℕ → List ℕ → LevelAnswer
level_answer t caps floors out =
    level_or (level_check t caps floors out) (split_from (network t) caps floors (network t).arcs)

-- the list afterwards: as it came where the answer is a refusal
abbrev pub list_after : LevelAnswer → List ℕ → List ℕ → List ℕ
list_after (split members) out shares = shares
list_after (refusal number place shortfall) out shares = out

-- each arc gives out what its adjusted need exceeds those of its child arcs by
abbrev pub level_shares : Network → List ℕ → List ℕ → List ℕ
level_shares n caps floors = level n caps (amount_of n (adjusted n floors))

unfoldable pub level_list : Tree → List ℕ → List ℕ → List ℕ → List ℕ
level_list t caps floors out =
    list_after (level_answer t caps floors out) out (level_shares (network t) caps floors)
