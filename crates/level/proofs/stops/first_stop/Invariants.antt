use Prim.Native.Nat.{ℕ}
use mathlib.Core.Path.{◌≡◌}
use lib.ListN.{length}
use Rattle.level.specs.Stops.{stop_from}
use Rattle.level.proofs.stops.first_stop.Given as goal

abbrev pub invariant-loop-i : goal.invariant-loop-i
invariant-loop-i l =
    (members : ℕ) → stop_from members l.parents l.needs l.adjusted l.sums (length l.parents)
    ≡ stop_from members l.parents l.needs l.adjusted l.sums l.i
