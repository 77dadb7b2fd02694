-- The entries of a list by arc: as code reads them, and of the list f 1, f 2, .., f m.
use Prim.Native.Nat.{ℕ, zero, suc, ◌-◌, ◌<◌}
use mathlib.Core.Path.{◌≡◌, ap}
use mathlib.Core.List.{List}
use native.Mathlib.Omega.{arith}
use lib.ListN.{get_or}
use Rattle.basics.specs.Sum.{list}
use Rattle.basics.proofs.Sums.{In}
use Rattle.basics.proofs.Lists.{list_at}
use Rattle.game.specs.Tree.{of_arc}

-- arc k's entry stands at place k - 1
pub arc_entry : (l : List ℕ) (k : ℕ) → 0 < k → get_or l (k - 1) 0 ≡ of_arc l k
arc_entry l zero h = absurd (omega arith)
arc_entry l (suc u) h = let e : suc u - 1 ≡ u = omega arith in ap (λ (i : ℕ). get_or l i 0) e

-- what f's list holds for arc k
pub of_list : (m : ℕ) (f : ℕ → ℕ) (k : ℕ) → In m k → of_arc (list m f) k ≡ f k
of_list m f zero i = absurd (omega arith)
of_list m f (suc u) i = list_at f 0 m u (omega arith)
