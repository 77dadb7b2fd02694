use Prim.Native.Nat.{◌-◌, ◌≤◌}
use mathlib.Core.Path.{◌≡◌}
use lib.ListN.{length}
use Rattle.limits.specs.Inner.{most_whole}
use Rattle.tree.specs.Passes.{network_at}
use Rattle.margin.specs.Passes.{Given}
use Rattle.margin.proofs.Between.{Between}
use Rattle.margin.proofs.search.find_margin.Given as goal

abbrev pub invariant-loop-low : goal.invariant-loop-low
invariant-loop-low l = Given l.parents l.costs l.vertices l.needs l.counts × (l.need ≤ most_whole)
    × (length l.out ≡ length l.parents)
    × Between (network_at l.parents l.costs l.vertices) l.arc l.need l.low l.high

abbrev pub decreases-loop-low : goal.decreases-loop-low
decreases-loop-low l = l.high - l.low
