use Rattle.std.proofs.Common.{refl, arith}
use Rattle.key_passes.proofs.Evaluating.{evaluating_start, turn_fits, turn_sum_fits, turn_on}
use Rattle.key_passes.proofs.forest.Forest.evaluate.Goals as goal

pub loop-i-init : goal.loop-i-init
loop-i-init c =
    let pre = c.requires in
    evaluating_start _ _ _ _ _ _ (omega arith) (omega arith) pre.by_index_2 pre.sums_value

pub overflow_add-total : goal.overflow_add-total
overflow_add-total c =
    let pre = c.requires in
    omega (
      arith,
      turn_fits _ _ _ _ _ _ _ c.args.self.now.bounds_len_bound c.args.self.now.rising pre.addable pre.by_index c.loop-i.invariant
          c.loop-i-test.true c.from-v.ensures refl refl,
    )

pub overflow_add-total-in-loop-i : goal.overflow_add-total-in-loop-i
overflow_add-total-in-loop-i c =
    let pre = c.requires in
    omega (
      arith,
      turn_fits _ _ _ _ _ _ _ c.args.self.now.bounds_len_bound c.args.self.now.rising pre.addable pre.by_index c.loop-i.invariant
          c.loop-i-test.true c.from-v.ensures (rw c.from.ensures at c.share_at-share.ensures) refl,
    )

pub overflow_add-sums : goal.overflow_add-sums
overflow_add-sums c =
    let pre = c.requires in
    omega (
      arith,
      turn_sum_fits _ _ _ _ _ _ _ c.args.self.now.bounds_len_bound c.args.self.now.rising pre.addable pre.by_index c.loop-i.invariant
          c.loop-i-test.true c.from-v.ensures (rw c.from.ensures at c.share_at-share.ensures) refl
          c.from-in-loop-i.ensures c.max.ensures,
    )

pub loop-i-preserved : goal.loop-i-preserved
loop-i-preserved c =
    let pre = c.requires in
    turn_on _ _ _ _ _ _ _ c.args.self.now.bounds_len_bound c.args.self.now.rising pre.addable pre.by_index c.loop-i.invariant
    c.loop-i-test.true c.from-v.ensures (rw c.from.ensures at c.share_at-share.ensures) refl
    c.from-in-loop-i.ensures c.max.ensures
