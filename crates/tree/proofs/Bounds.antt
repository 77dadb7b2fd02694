-- The costs of all arcs together, within their limits.
use Prim.Native.Nat.{ℕ, ◌≤◌}
use mathlib.Core.List.{List}
use native.Mathlib.Omega.{arith}
use lib.ListN.{length}
use Rattle.basics.specs.Sum.{sum}
use Rattle.game.specs.Tree.{of_arc}
use Rattle.basics.proofs.Sums.{sum_bound}
use Rattle.limits.specs.Limits.{most_cost}
use Rattle.limits.specs.Inner.{most_whole}
use Rattle.tree.specs.Passes.{Sound, Costed}

pub costs_bound : (ps cs : List ℕ) → Sound ps → Costed ps cs → sum (length ps) (of_arc cs) ≤ most_whole
costs_bound ps cs sound costed =
    omega (arith, sum_bound (length ps) most_cost {f = of_arc cs} (λ k i. costed.limited k), sound.few)
