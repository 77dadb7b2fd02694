-- The group search: of all groups the one that overpays most, and of those the one with fewest members.
use Rattle.std.specs.Prelude.{ℕ, zero, suc, Bool, true, false, cond, ◌&&◌, ◌||◌, List, [], ◌∷◌, ◌++◌, map, get_or, ℤ, ltb}
use Rattle.std.specs.Int.Signed.{lt_z, le_z}
use Rattle.game.specs.Network.{Network, member_count}
use Rattle.basics.specs.Sum.{size}
use Rattle.game.specs.Proposal.{overpayment}

-- every group of n members, each as a list of n places
unfoldable pub groups : ℕ → List (List Bool)
groups zero = [] ∷ []
groups (suc n) = map (λ g. false ∷ g) (groups n) ++ map (λ g. true ∷ g) (groups n)

-- whether member j is in the group
abbrev pub is_in : List Bool → ℕ → Bool
is_in g j = get_or g j false

-- g overpays more than h, or as much with fewer members
abbrev pub better : Network → List ℤ → List Bool → List Bool → Bool
better n shares g h =
    lt_z (overpayment n shares (is_in h)) (overpayment n shares (is_in g))
    || (le_z (overpayment n shares (is_in h)) (overpayment n shares (is_in g))
    && ltb (size (member_count n) (is_in g)) (size (member_count n) (is_in h)))

-- the best of a group and those in a list
unfoldable pub best : Network → List ℤ → List Bool → List (List Bool) → List Bool
best n shares g [] = g
best n shares g (h ∷ rest) = best n shares (cond (better n shares h g) h g) rest

-- the group that the search names; the empty group, which overpays 0, where no group overpays
unfoldable pub named : Network → List ℤ → List Bool
named n shares = best n shares [] (groups (member_count n))
