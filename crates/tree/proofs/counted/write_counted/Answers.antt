use Prim.Native.Nat.{◌-◌}
use mathlib.Core.Path.{◌≡◌, refl, ◌∙◌}
use native.Mathlib.Omega.{arith}
use borrow.Author.Tests.{eq-eqb}
use lib.ListN.{get_or}
use Rattle.basics.specs.Sum.{pick}
use Rattle.game.specs.Network.{everyone}
use Rattle.tree.proofs.UsePass.{in_use, using_member, using_other}
use Rattle.tree.proofs.CountedPass.{counting_start, counting_on, counting_end}
use Rattle.tree.proofs.counted.write_counted.Goals as goal
use Rattle.tree.proofs.counted.write_counted.Goals.{then-marks-i-eq1, else-marks-i-eq1, then-here, else-here}

pub loop-i-init : goal.loop-i-init
loop-i-init c = counting_start _ _ _ refl c.requires.out_len

pub loop-i-preserved : goal.loop-i-preserved
loop-i-preserved c =
    let pre = c.requires in
    let args = c.args in
    let at = c.loop-i in
    let known = at.invariant.known in
    let used : c.if-marks-i-eq1.here ≡ in_use args.parents.now args.costs.now args.marks.now everyone at.i =
    elim c.if-marks-i-eq1.branch [
      | then-marks-i-eq1 w ↦
          w.here-is ∙ eq-eqb _ 1 w.if-marks-i-eq1.true
          ∙ using_member _ _ _ _ pre.sound pre.marked c.loop-i-test.true (omega arith) known w.if-marks-i-eq1.true
      | else-marks-i-eq1 w ↦
          w.here-is
          ∙ using_other _ _ _ _ pre.sound pre.marked c.loop-i-test.true (omega arith) known w.if-marks-i-eq1.false
    ] in
    let paid : c.if-here.out ≡ pick c.if-marks-i-eq1.here (get_or args.costs.now (at.i - 1) 0) =
    elim c.if-here.branch [
      | then-here w ↦ rw w.if-here.true w.out-is
      | else-here w ↦ rw w.if-here.false w.out-is
    ] in
    rw c.from-p.ensures
    (counting_on _ _ _ pre.sound pre.marked c.loop-i-test.true (omega arith) at.invariant used paid)

pub returns : goal.returns
returns c = counting_end _ _ _ (omega arith) c.loop-i.invariant
