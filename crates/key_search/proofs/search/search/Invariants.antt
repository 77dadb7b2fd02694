use Rattle.std.proofs.Common.{◌≡◌, ◌-◌, ◌≤◌, length, take}
use Rattle.basics.specs.Sum.{sum}
use Rattle.key_passes.specs.Passes.{at}
use Rattle.key_search.proofs.Searching.{Ready, Standing}
use Rattle.key_search.proofs.search.search.Given as goal

abbrev pub invariant-loop-count : goal.invariant-loop-count
invariant-loop-count l =
    Ready l.parents l.vertices l.caps l.bounds l.members.caps l.members.numbers
    × (l.count ≤ length l.order)
    × (length l.order ≡ length l.initial.order)
    × Standing l.parents l.vertices l.caps l.bounds (take l.count l.order) l.links l.lows l.highs l.rests
    l.sums l.flags

abbrev pub decreases-loop-count : goal.decreases-loop-count
decreases-loop-count l = sum (length l.parents) (λ v. at l.highs v - at l.lows v)
