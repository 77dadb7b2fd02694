use Prim.Native.Nat.{◌-◌}
use Rattle.parent_lists.specs.Rising.{FullBehind}
use Rattle.parent_lists.proofs.rising_arc.Given as goal

abbrev pub invariant-loop-arc : goal.invariant-loop-arc
invariant-loop-arc l = FullBehind l.parents (l.arc - 1)
