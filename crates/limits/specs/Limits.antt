-- The limits (docs/SPECIFICATION.md, §1, §4, §5, §11, §13, §14).
use Rattle.std.specs.Prelude.{ℕ}

-- the most arcs of a tree, and so the most members
abbrev pub most_arcs : ℕ
most_arcs = 1023

-- the most arcs for which all networks are stepped through
abbrev pub most_small_arcs : ℕ
most_small_arcs = 6

-- the most classes of costs
abbrev pub most_classes : ℕ
most_classes = 4

-- the bits of a group's sixteen words
abbrev pub group_bits : ℕ
group_bits = 1024

-- the greatest cost of an arc
abbrev pub most_cost : ℕ
most_cost = 1000000000

-- the greatest amount that a share, of either sign, or a cap can have
abbrev pub most_share : ℕ
most_share = 2000000000000

-- the most events that are committed on a state
abbrev pub most_events : ℕ
most_events = 1000000
