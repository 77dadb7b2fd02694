-- Demand 3, about the level split's own answers and lists. A list of whole shares has one whole number a member, of
-- any size and either sign; a group is any set of member numbers.
use Rattle.std.specs.Prelude.{ℕ, ◌+◌, ◌≤◌, ◌<◌, ◌≡◌, true, ◌↔◌, ◌⊎◌, List, map, length, get_or, replicate, ℤ, pos, ◌*ℤ◌, ◌≤ℤ◌}
use Rattle.game.specs.Network.{member_count, need}
use Rattle.game.specs.Tree.{Tree, network, of_arc, counted_costs}
use Rattle.game.specs.Inward.{amount_of}
use Rattle.game.specs.Floors.{adjusted}
use Rattle.game.specs.Level.{level}
use Rattle.game.specs.Proposal.{share}
use Rattle.basics.specs.Integer.{sum_ℤ}
use Rattle.game.specs.Core.{users, Core}
use Rattle.answer_forms.specs.Answer.{Check, accepted, ◌then◌}
use Rattle.answers.specs.Checks.{tree_check, output_check}
use Rattle.answers.specs.Laws.{ArcOf}
use Rattle.answers.specs.Level.{split, refusal, cap_sum, caps_check, level_answer, level_shares, level_list}

-- the tree, the caps, the floors and the output list are accepted, each by itself
abbrev pub lists_check : Tree → List ℕ → List ℕ → List ℕ → Check
lists_check t caps floors out =
    let members = member_count (network t) in
    tree_check t then caps_check members caps then caps_check members floors then output_check members out

-- the list has one share a member, is in the core and has every share from its floor to its cap
pub record Fits (t : Tree) (caps floors : List ℕ) (shares : List ℤ) : Type 0 where
  pub one_a_member : length shares ≡ member_count (network t)
  pub in_core : Core (network t) shares
  pub keeps_floors : (j : ℕ) → j < member_count (network t) → pos (get_or floors j 0) ≤ℤ share shares j
  pub keeps_caps : (j : ℕ) → j < member_count (network t) → share shares j ≤ℤ pos (get_or caps j 0)

-- the sum of the squares of the shares
abbrev pub square_sum : Tree → List ℤ → ℤ
square_sum t shares = sum_ℤ (member_count (network t)) (λ j. share shares j *ℤ share shares j)

-- the answer is a refusal of the split: 9, 27 or 28
abbrev pub RefusesSplit : ℕ → Type 0
RefusesSplit number = (number ≡ 9) ⊎ ((number ≡ 27) ⊎ (number ≡ 28))

pub record Refused (t : Tree) (caps floors out : List ℕ) : Type 0 where
  pub number : ℕ
  pub place : ℕ
  pub shortfall : ℕ
  pub of_split : RefusesSplit number
  pub answered : level_answer t caps floors out ≡ refusal number place shortfall

-- no arc numbered above the place stops the split
pub record Passed (t : Tree) (caps floors : List ℕ) (place : ℕ) : Type 0 where
  pub caps_enough : (k : ℕ) → place < k → ArcOf t k → adjusted (network t) floors k ≤ cap_sum (network t) caps k
  pub floors_fit : (k : ℕ) → place < k → ArcOf t k → of_arc t.parents k ≡ 0
      → adjusted (network t) floors k ≤ need (network t) k

-- 9 names the first arc from the last down that stops the split, with the exact shortfall
pub record ShortAt (t : Tree) (caps floors out : List ℕ) (place shortfall : ℕ) : Type 0 where
  pub is_arc : ArcOf t place
  pub exact : cap_sum (network t) caps place + shortfall ≡ adjusted (network t) floors place
  pub some_short : 0 < shortfall
  pub first : Passed t caps floors place
  -- its adjusted need is its need, so 28 is not to be found there, and without floors the answer is the same
  pub by_need : adjusted (network t) floors place ≡ need (network t) place
  pub without_floors :
      level_answer t caps (replicate (member_count (network t)) 0) out ≡ refusal 9 place shortfall
  -- in no list in the core do the arc's users keep their caps
  pub cannot_serve : (shares : List ℤ) → Core (network t) shares
      → ((j : ℕ) → j < member_count (network t) → users (network t) place j ≡ true
      → share shares j ≤ℤ pos (get_or caps j 0))
      → ⊥

-- 28 names the first arc from the last down that stops the split, one from the source
pub record HighAt (t : Tree) (caps floors : List ℕ) (place : ℕ) : Type 0 where
  pub is_arc : ArcOf t place
  pub from_source : of_arc t.parents place ≡ 0
  pub above : need (network t) place < adjusted (network t) floors place
  pub first : Passed t caps floors place
  -- 9 is not to be found there
  pub caps_enough : adjusted (network t) floors place ≤ cap_sum (network t) caps place
  -- in no list in the core do the arc's users keep their floors
  pub cannot_serve : (shares : List ℤ) → Core (network t) shares
      → ((j : ℕ) → j < member_count (network t) → users (network t) place j ≡ true
      → pos (get_or floors j 0) ≤ℤ share shares j)
      → ⊥

-- 27 names the lowest member whose floor is above its cap
pub record AboveAt (t : Tree) (caps floors : List ℕ) (place : ℕ) : Type 0 where
  pub is_member : place < member_count (network t)
  pub above : get_or caps place 0 < get_or floors place 0
  pub lowest : (j : ℕ) → j < place → get_or floors j 0 ≤ get_or caps j 0

pub record LevelLaws (t : Tree) (caps floors out : List ℕ) : Type 0 where
  -- the split is refused, exactly when no list of whole shares in the core has every share from its floor to its cap
  pub refused_exactly : Refused t caps floors out ↔ ((shares : List ℤ) → Fits t caps floors shares → ⊥)
  -- otherwise the list given is such a list, and every other such list has a sum of squares at least as great
  pub given_fits : level_answer t caps floors out ≡ split (member_count (network t))
      → Fits t caps floors (map pos (level_list t caps floors out))
  pub least_squares : level_answer t caps floors out ≡ split (member_count (network t))
      → (shares : List ℤ) → Fits t caps floors shares
      → square_sum t (map pos (level_list t caps floors out)) ≤ℤ square_sum t shares
  -- there is no third answer
  pub one_of_two : (level_answer t caps floors out ≡ split (member_count (network t))) ⊎ Refused t caps floors out
  -- what the refusals name
  pub at_9 : (place shortfall : ℕ) → level_answer t caps floors out ≡ refusal 9 place shortfall
      → ShortAt t caps floors out place shortfall
  pub at_27 : (place shortfall : ℕ) → level_answer t caps floors out ≡ refusal 27 place shortfall
      → AboveAt t caps floors place
  pub at_28 : (place shortfall : ℕ) → level_answer t caps floors out ≡ refusal 28 place shortfall
      → HighAt t caps floors place

abbrev pub Demand3 : Type 0
Demand3 = (t : Tree) (caps floors out : List ℕ) → lists_check t caps floors out ≡ accepted → LevelLaws t caps floors out

-- where every floor is 0: the adjusted needs are the needs, each arc gives out its counted cost, the shares are those
-- of the level rule with these, and the split is refused by 9 alone
pub record WithoutFloors (t : Tree) (caps floors out : List ℕ) : Type 0 where
  pub needs_stay : (k : ℕ) → ArcOf t k → adjusted (network t) floors k ≡ need (network t) k
  pub gives_cost : (k : ℕ) → ArcOf t k
      → amount_of (network t) (adjusted (network t) floors) k ≡ of_arc (counted_costs t) k
  pub same_shares : level_shares (network t) caps floors ≡ level (network t) caps (network t).cost
  pub only_9 : (number place shortfall : ℕ) → level_answer t caps floors out ≡ refusal number place shortfall
      → number ≡ 9

abbrev pub NoFloorsStatement : Type 0
NoFloorsStatement = (t : Tree) (caps floors out : List ℕ) → lists_check t caps floors out ≡ accepted
    → ((j : ℕ) → get_or floors j 0 ≡ 0) → WithoutFloors t caps floors out
