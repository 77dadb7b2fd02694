-- The level rule: each arc's amount is given out unit by unit to the user with the smallest share among those below
-- their cap.
-- Shares and caps are lists in member order.
use Rattle.std.specs.Prelude.{ℕ, zero, suc, ◌+◌, Bool, cond, ◌&&◌, List, get_or, set, replicate, ltb}
use Rattle.game.specs.Network.{Network, member_count}
use Rattle.game.specs.Core.{users}

-- member j after the choice c among the members before it: c is 0 for none, i + 1 for member i
abbrev pub or_keep : (ℕ → Bool) → (ℕ → ℕ) → ℕ → ℕ → ℕ
or_keep may x j zero = cond (may j) (suc j) 0
or_keep may x j (suc i) = cond (may j && ltb (x j) (x i)) (suc j) (suc i)

-- of the members below j that pass the test the one with the smallest x, the lowest number where several have it
unfoldable pub first_least : (ℕ → Bool) → (ℕ → ℕ) → ℕ → ℕ
first_least may x zero = 0
first_least may x (suc j) = or_keep may x j (first_least may x j)

-- member j uses arc k and is below its cap
abbrev pub may_take : Network → List ℕ → ℕ → List ℕ → ℕ → Bool
may_take n caps k shares j = users n k j && ltb (get_or shares j 0) (get_or caps j 0)

-- one unit more for the member chosen
abbrev pub with_one_more : List ℕ → ℕ → List ℕ
with_one_more shares zero = shares
with_one_more shares (suc j) = set shares j (get_or shares j 0 + 1)

-- one unit of arc k; nobody gets it where no user is below its cap
abbrev pub unit : Network → List ℕ → ℕ → List ℕ → List ℕ
unit n caps k shares = with_one_more shares (first_least (may_take n caps k shares) (λ j. get_or shares j 0) (member_count n))

-- t units of arc k, one by one
unfoldable pub units : Network → List ℕ → ℕ → ℕ → List ℕ → List ℕ
units n caps k zero shares = shares
units n caps k (suc t) shares = unit n caps k (units n caps k t shares)

-- the arcs from k down to 1, each with as many units as its amount
unfoldable pub arcs_down : Network → List ℕ → (ℕ → ℕ) → ℕ → List ℕ → List ℕ
arcs_down n caps amount zero shares = shares
arcs_down n caps amount (suc k) shares = arcs_down n caps amount k (units n caps (suc k) (amount (suc k)) shares)

-- the level split: all shares start at 0, and the arcs are taken from the last down to 1
abbrev pub level : Network → List ℕ → (ℕ → ℕ) → List ℕ
level n caps amount = arcs_down n caps amount n.arcs (replicate (member_count n) 0)
