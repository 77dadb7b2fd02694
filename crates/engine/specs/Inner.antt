-- What the functions below the entries answer.
use Rattle.std.specs.Prelude.{ℕ}
use Rattle.game.specs.Network.{Network, member_count}
use Rattle.game.specs.Margin.{widest}
use Rattle.answers.specs.Margin.{MarginValue}

-- the widest margin on a network whose members all use the arc, and how many they are
abbrev pub margin_at : Network → ℕ → MarginValue
margin_at n arc = record { margin = widest n arc; users = member_count n }
