use native.Mathlib.Numerals.{add-one}
use Rattle.users.proofs.StartPass.{beginning_on}
use Rattle.users.proofs.write_starts.Goals as goal

pub loop-i-preserved : goal.loop-i-preserved
loop-i-preserved c =
    let pre = c.requires in
    let at = c.loop-i in
    rw (c.from-p.ensures, add-one at.i)
    (beginning_on _ _ pre.sound pre.counts c.loop-i-test.true at.invariant)
