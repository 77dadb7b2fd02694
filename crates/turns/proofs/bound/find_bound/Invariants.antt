use Prim.Native.Nat.{◌-◌, ◌<◌}
use lib.ListN.{length}
use Rattle.turns.specs.Keys.{Keys}
use Rattle.turns.proofs.Narrowing.{Bracket}
use Rattle.turns.proofs.bound.find_bound.Given as goal

abbrev pub invariant-loop-under : goal.invariant-loop-under
invariant-loop-under l = Keys l.keys × (l.more < length l.keys)
    × Bracket l.keys l.more l.low l.high l.under l.over l.tries

abbrev pub decreases-loop-under : goal.decreases-loop-under
decreases-loop-under l = l.high - l.low
