-- What stops the level split, over the lists that the passes write.
use Rattle.std.specs.Prelude.{ℕ, zero, suc, List, get_or}
use Rattle.answers.specs.Level.{LevelAnswer, split, stop_or}

-- the arcs from k down, by the lists of parents, needs, adjusted needs and cap sums
unfoldable pub stop_from : (members : ℕ) (parents needs adjusted sums : List ℕ) → ℕ → LevelAnswer
stop_from members parents needs adjusted sums zero = split members
stop_from members parents needs adjusted sums (suc k) =
    stop_or (suc k) (get_or parents k 0) (get_or needs k 0) (get_or adjusted k 0) (get_or sums k 0)
    (stop_from members parents needs adjusted sums k)
