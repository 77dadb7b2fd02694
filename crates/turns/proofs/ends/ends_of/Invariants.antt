use Rattle.std.proofs.Common.{ℕ, ◌<◌, ◌≤◌, get_or}
use Rattle.turns.specs.Keys.{Keys, key_limit}
use Rattle.turns.proofs.ends.ends_of.Given as goal

abbrev pub invariant-loop-key : goal.invariant-loop-key
invariant-loop-key l =
    Keys l.keys × (l.greatest < key_limit) × ((u : ℕ) → u < l.key-index → l.least ≤ get_or l.keys u 0)
    × ((u : ℕ) → u < l.key-index → get_or l.keys u 0 ≤ l.greatest)
