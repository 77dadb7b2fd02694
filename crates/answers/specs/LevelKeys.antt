-- What the level split is, without units and without an order of arcs: a member's share is the one at the greatest key
-- on its path.
use Rattle.std.specs.Prelude.{ℕ, ◌*◌, ◌<◌, ◌≡◌, List, get_or}
use Rattle.game.specs.Network.{member_count, members}
use Rattle.game.specs.Tree.{Tree, network}
use Rattle.game.specs.Floors.{adjusted}
use Rattle.game.specs.LevelKeys.{at_key, path_key}
use Rattle.answer_forms.specs.Answer.{accepted}
use Rattle.limits.specs.Limits.{most_share}
use Rattle.answers.specs.Level.{split, level_check, level_answer, level_list}

-- the greatest key on the path to member j, where each arc's users are to have its adjusted need; no level above the
-- greatest cap is looked at
abbrev pub member_key : Tree → List ℕ → List ℕ → ℕ → ℕ
member_key t caps floors j =
    path_key (network t) caps (adjusted (network t) floors) (most_share * 1024) (get_or (members (network t)) j 0)

abbrev pub LevelKeysStatement : Type 0
LevelKeysStatement =
    (t : Tree) (caps floors out : List ℕ) → level_check t caps floors out ≡ accepted
    → level_answer t caps floors out ≡ split (member_count (network t))
    → (j : ℕ) → j < member_count (network t)
    → get_or (level_list t caps floors out) j 0 ≡ at_key caps (member_key t caps floors j) j
