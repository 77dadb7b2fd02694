-- Bounds of the sums at or below an arc.
use Prim.Native.Nat.{ℕ, ◌≤◌}
use native.Mathlib.Decide.{ℕ_discrete}
use native.Mathlib.Omega.{arith}
use lib.Dec.{eqb}
use Rattle.basics.specs.Sum.{pick, sum}
use Rattle.game.specs.Network.{Network, at_or_below, sum_below}
use Rattle.basics.proofs.Bools.{pick_le}
use Rattle.basics.proofs.Sums.{sum_mono}
use Rattle.game.proofs.Below.{Rooted, sum_below_children, sum_from_source}

pub sum_below_le : (n : Network) (x : ℕ → ℕ) (k : ℕ) → sum_below n x k ≤ sum n.arcs x
unfolding sum_below
sum_below_le n x k = sum_mono n.arcs (λ v i. pick_le (at_or_below n k v) (x v))

-- the sums of a vertex's children are part of the whole
pub children_le : (n : Network) → Rooted n → (x : ℕ → ℕ) (v : ℕ) → v ≤ n.arcs
    → sum n.arcs (λ u. pick (eqb (n.parent u) v) (sum_below n x u)) ≤ sum n.arcs x
children_le n rooted x v h =
    elim (ℕ_discrete v 0) [
      | yes e ↦ rw e (omega (arith, sum_from_source n rooted x))
      | no e ↦ omega (arith, sum_below_children n rooted x v (omega arith), sum_below_le n x v)
    ]
