-- Numbers that go from the child arcs to an arc.
use Rattle.std.specs.Prelude.{ℕ, zero, suc, ◌-◌, eqb}
use Rattle.basics.specs.Sum.{pick, sum}
use Rattle.game.specs.Network.{Network}

-- the sum of f over vertex k's child arcs
abbrev pub of_children : Network → (ℕ → ℕ) → ℕ → ℕ
of_children n f k = sum n.arcs (λ u. pick (eqb (n.parent u) k) (f u))

-- what arc k gives out where the users of every arc are to have its bound together when it has given out
abbrev pub amount_of : Network → (ℕ → ℕ) → ℕ → ℕ
amount_of n bound k = bound k - of_children n bound k

-- what a rule gives for arc k, by its number and the sum of what it gives for the child arcs; the third argument bounds
-- the steps down the tree
unfoldable pub inward_within : Network → (ℕ → ℕ → ℕ) → ℕ → ℕ → ℕ
inward_within n rule zero k = 0
inward_within n rule (suc f) k = rule k (of_children n (inward_within n rule f) k)

-- no path down the tree has more steps than the network has arcs
abbrev pub inward : Network → (ℕ → ℕ → ℕ) → ℕ → ℕ
inward n rule = inward_within n rule n.arcs
