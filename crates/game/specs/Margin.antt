-- The widest margin on a network whose members all use one arc b from the source, and the split that gives it.
use Rattle.std.specs.Prelude.{ℕ, ◌+◌, ◌<◌, max, ◌≡◌, Bool, true, false, not, ◌&&◌, List, replicate, ℤ, pos, ◌-ℤ◌, eqb, ltb}
use Rattle.basics.specs.Sum.{pick, sum}
use Rattle.game.specs.Network.{Network, used, need, member_count}
use Rattle.game.specs.Group.{group_by_number}
use Rattle.game.specs.Proposal.{pays}
use Rattle.game.specs.ByArc.{user_count}
use Rattle.game.specs.Level.{level}
use Rattle.game.specs.Inward.{amount_of, inward}
use Rattle.game.specs.LevelKeys.{greatest}

-- the costs of the arcs that only the group uses: one of its members does, and nobody else
unfoldable pub own_cost : Network → (ℕ → Bool) → ℕ
own_cost n g =
    sum n.arcs (λ e. pick (used n (group_by_number n g) e && not (used n (group_by_number n (λ j. not (g j))) e)) (n.cost e))

-- a group's margin: what it pays less the costs of the arcs that only it uses
abbrev pub group_margin : Network → List ℤ → (ℕ → Bool) → ℤ
group_margin n shares g = pays n shares g -ℤ pos (own_cost n g)

-- a proper nonempty group: one member is in it, and one is not
pub record Proper (n : Network) (g : ℕ → Bool) : Type 0 where
  pub member : ℕ
  pub is_member : member < member_count n
  pub inside : g member ≡ true
  pub other : ℕ
  pub is_other : other < member_count n
  pub outside : g other ≡ false

-- arc k's raised need at margin d, where those of its child arcs add up to `below`: the larger of that sum and of the
-- need, with the margin where some member does not use the arc; 0 for an arc without users
abbrev pub raised_by : Network → ℕ → ℕ → ℕ → ℕ
raised_by n d k below =
    pick (ltb 0 (user_count n k)) (max (need n k + pick (ltb (user_count n k) (member_count n)) d) below)

abbrev pub raised : Network → ℕ → ℕ → ℕ
raised n d = inward n (raised_by n d)

-- the widest margin: the greatest, up to arc b's need, at which the raised need of arc b is its need
unfoldable pub widest : Network → ℕ → ℕ
widest n b = greatest (λ d. eqb (raised n d b) (need n b)) (need n b)

-- the level split without caps: the number of all units is a cap that stops nobody
abbrev pub level_free : Network → (ℕ → ℕ) → List ℕ
level_free n amount = level n (replicate (member_count n) (sum n.arcs amount)) amount

-- the shares at a margin: each arc gives out what its raised need exceeds those of its child arcs by
abbrev pub shares_at : Network → ℕ → List ℕ
shares_at n d = level_free n (amount_of n (raised n d))
