-- A list of whole shares, one a member and of either sign, and what a group pays of it.
use Rattle.std.specs.Prelude.{ℕ, Bool, true, List, get_or, ℤ, pos, ◌-ℤ◌}
use Rattle.basics.specs.Integer.{pick_ℤ, sum_ℤ}
use Rattle.game.specs.Network.{Network, group_cost, member_count, whole_cost}
use Rattle.game.specs.Group.{group_by_number}

-- member j's share
abbrev pub share : List ℤ → ℕ → ℤ
share shares j = get_or shares j (pos 0)

-- what a group pays: the sum of its members' shares
unfoldable pub pays : Network → List ℤ → (ℕ → Bool) → ℤ
pays n shares g = sum_ℤ (member_count n) (λ j. pick_ℤ (g j) (share shares j))

-- a group's overpayment: what it pays less what its own network costs
abbrev pub overpayment : Network → List ℤ → (ℕ → Bool) → ℤ
overpayment n shares g = pays n shares g -ℤ pos (group_cost n (group_by_number n g))

-- the shares' sum less the whole cost
abbrev pub difference : Network → List ℤ → ℤ
difference n shares = pays n shares (λ j. true) -ℤ pos (whole_cost n)
