use mathlib.Core.Path.{◌≡◌}
use lib.ListN.{drop}
use Rattle.answers.specs.Checks.{range_check}
use Rattle.answers.specs.Level.{outside_cap}
use Rattle.checks.proofs.caps.check_each.Given as goal

abbrev pub invariant-loop-j : goal.invariant-loop-j
invariant-loop-j l = range_check outside_cap 0 l.caps ≡ range_check outside_cap l.j (drop l.j l.caps)
