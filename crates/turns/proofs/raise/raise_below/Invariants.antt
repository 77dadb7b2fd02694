use Rattle.std.proofs.Common.{◌≤◌}
use Rattle.limits.specs.Limits.{most_arcs}
use Rattle.turns.specs.Keys.{Keys}
use Rattle.turns.proofs.Loops.{Raising}
use Rattle.turns.proofs.raise.raise_below.Given as goal

abbrev pub invariant-loop-key : goal.invariant-loop-key
invariant-loop-key l = Keys l.initial.keys × (l.base ≤ most_arcs)
    × Raising l.base l.bound l.initial.keys l.keys l.key-index
