-- The by-arc rule: each arc's cost is divided among its users alone, and the units left over go to them in turn.
use Rattle.std.specs.Prelude.{ℕ, zero, suc, ◌+◌, ◌-◌, ◌/◌, ◌%◌, Bool, ◌&&◌, ◌||◌, List, get_or, replicate, eqb, ltb}
use Rattle.basics.specs.Sum.{pick, size, entries}
use Rattle.game.specs.Network.{Network, member_count}
use Rattle.game.specs.Core.{users}

-- the number of an arc's users
abbrev pub user_count : Network → ℕ → ℕ
user_count n k = size (member_count n) (users n k)

-- a user's equal part of arc k's cost
abbrev pub equal_part : Network → ℕ → ℕ
equal_part n k = n.cost k / user_count n k

-- the units that the equal parts leave over
abbrev pub leftover : Network → ℕ → ℕ
leftover n k = n.cost k % user_count n k

-- a tally is the number of leftover units that a member has had; member i has had fewer than j, or as many and has the
-- lower number
abbrev pub ahead : List ℕ → ℕ → ℕ → Bool
ahead tallies i j =
    ltb (get_or tallies i 0) (get_or tallies j 0) || (eqb (get_or tallies i 0) (get_or tallies j 0) && ltb i j)

-- how many users of arc k are ahead of member j
abbrev pub rank : Network → ℕ → List ℕ → ℕ → ℕ
rank n k tallies j = size (member_count n) (λ i. users n k i && ahead tallies i j)

-- member j gets one of arc k's leftover units
abbrev pub served : Network → ℕ → List ℕ → ℕ → Bool
served n k tallies j = users n k j && ltb (rank n k tallies j) (leftover n k)

-- what arc k gives member j
abbrev pub gives : Network → ℕ → List ℕ → ℕ → ℕ
gives n k tallies j = pick (users n k j) (equal_part n k) + pick (served n k tallies j) 1

-- the tallies that arc k hands back
unfoldable pub tallied : Network → ℕ → List ℕ → List ℕ
tallied n k tallies = entries (member_count n) (λ j. get_or tallies j 0 + pick (served n k tallies j) 1)

-- where the split stands: a share and a tally for each member
pub record Standing : Type 0 where
  pub shares : List ℕ
  pub tallies : List ℕ

-- arc k's gifts added to the shares, and its tallies handed back; an arc without users changes nothing
unfoldable pub give_arc : Network → ℕ → Standing → Standing
give_arc n k s =
    record {
      shares = entries (member_count n) (λ j. get_or s.shares j 0 + gives n k s.tallies j);
      tallies = tallied n k s.tallies;
    }

-- after i arcs, from the last one down; all shares and tallies start at 0
unfoldable pub handled : Network → ℕ → Standing
handled n zero = record { shares = replicate (member_count n) 0; tallies = replicate (member_count n) 0 }
handled n (suc i) = give_arc n (n.arcs - i) (handled n i)

-- the by-arc split
abbrev pub by_arc : Network → List ℕ
by_arc n = (handled n n.arcs).shares

-- the tallies when arc k's turn comes: the arcs above k have been handled
abbrev pub tallies_at : Network → ℕ → List ℕ
tallies_at n k = (handled n (n.arcs - k)).tallies

-- what arc k gives member j in the by-arc split
abbrev pub gift : Network → ℕ → ℕ → ℕ
gift n k = gives n k (tallies_at n k)
