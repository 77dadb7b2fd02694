use mathlib.Core.Path.{refl}
use native.Mathlib.Omega.{arith}
use Rattle.tree.proofs.InwardPass.{passing_end}
use Rattle.tree.proofs.SumPass.{summing_start, summing_fits, summing_carry, summing_on, summing_whole}
use Rattle.tree.proofs.sums.add_up.Goals as goal

pub loop-i-init : goal.loop-i-init
loop-i-init c = summing_start _ _ refl c.requires.out_len

pub overflow_add-total-in-loop-i : goal.overflow_add-total-in-loop-i
overflow_add-total-in-loop-i c =
    let pre = c.requires in
    omega (
      arith,
      summing_fits _ _ pre.sound pre.out_len c.loop-i-test.true (omega arith) c.loop-i.invariant,
    )

pub overflow_add-below : goal.overflow_add-below
overflow_add-below c =
    let pre = c.requires in
    let carry =
    rw (← c.from-p.ensures) at
    (summing_carry _ _ pre.sound pre.out_len c.loop-i-test.true (omega arith) c.loop-i.invariant) in
    omega (arith, carry)

pub loop-i-preserved : goal.loop-i-preserved
loop-i-preserved c =
    let pre = c.requires in
    rw c.from-p.ensures (summing_on _ _ pre.sound pre.out_len c.loop-i-test.true (omega arith) c.loop-i.invariant)

pub returns-clause-value : goal.returns-clause-value
returns-clause-value c = summing_whole _ _ c.requires.sound c.requires.out_len (omega arith) c.loop-i.invariant

pub returns-clause-out_after : goal.returns-clause-out_after
returns-clause-out_after c = passing_end _ _ (omega arith) c.loop-i.invariant.passing
