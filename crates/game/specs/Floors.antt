-- The adjusted needs: what an arc's users are to pay where each member pays at least its floor.
use Rattle.std.specs.Prelude.{ℕ, max, cond, List, get_or}
use Rattle.game.specs.Network.{Network, need, number}
use Rattle.game.specs.Inward.{inward}

-- arc k's adjusted need, where those of its child arcs add up to `below`: at a member's arc the larger of its cost and
-- of the member's floor, elsewhere the larger of its need and of that sum
abbrev pub adjusted_by : Network → List ℕ → ℕ → ℕ → ℕ
adjusted_by n floors k below =
    cond (n.member k) (max (n.cost k) (get_or floors (number n k) 0)) (max (need n k) below)

abbrev pub adjusted : Network → List ℕ → ℕ → ℕ
adjusted n floors = inward n (adjusted_by n floors)
