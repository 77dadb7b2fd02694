-- A group as sixteen 64-bit words, member j being bit j, and as a set of member numbers.
use Rattle.std.specs.Prelude.{ℕ, ◌+◌, ◌*◌, ◌^◌, Bool, List}
use Rattle.basics.specs.Sum.{pick, sum₀, entries}
use Rattle.game.specs.Network.{Network, number}

-- the sixteen words of a group of member numbers
unfoldable pub words_of : (ℕ → Bool) → List ℕ
words_of g = entries 16 (λ w. sum₀ 64 (λ b. pick (g (64 * w + b)) (2 ^ b)))

-- a group of member numbers, as a set of the members' vertices
abbrev pub group_by_number : Network → (ℕ → Bool) → ℕ → Bool
group_by_number n g v = g (number n v)
