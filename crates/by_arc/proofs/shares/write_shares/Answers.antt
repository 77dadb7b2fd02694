use native.Mathlib.Omega.{arith}
use Rattle.basics.proofs.Lists.{entries_are}
use Rattle.by_arc.proofs.shares.write_shares.Goals as goal

pub returns : goal.returns
returns c =
    let filled = c.loop-j.invariant in
    entries_are _ 0 _ _ filled.kept (λ j h. filled.filled j (omega (arith, c.loop-j-test.false)))
