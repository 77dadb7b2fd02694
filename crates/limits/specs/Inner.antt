-- What follows from the limits.
use Rattle.std.specs.Prelude.{ℕ}

-- the greatest whole cost, and the most that caps, or shares of one sign, add up to
abbrev pub most_whole : ℕ
most_whole = 1023000000000

abbrev pub most_total : ℕ
most_total = 2046000000000000
