use Prim.Native.Nat.{◌-◌}
use mathlib.Core.Path.{◌≡◌}
use Rattle.answers.specs.Checks.{bits_check, group_check}
use Rattle.bits.proofs.check_group.Given as goal

abbrev pub invariant-loop-j : goal.invariant-loop-j
invariant-loop-j l = group_check l.members l.words ≡ bits_check l.words (1024 - l.j) l.j

abbrev pub decreases-loop-j : goal.decreases-loop-j
decreases-loop-j l = 1024 - l.j
