use Rattle.std.proofs.Common.{arith, ◌∙◌}
use Rattle.key_passes.proofs.FlagTests.{flags_differ, flags_same, exact_not, exact_is}
use Rattle.key_passes.proofs.Keeping.{keeping_start, keeping_on, keeping_fits, added_bound}
use Rattle.key_passes.proofs.Keeping.{passed_bound, passed_source, passed_same, wide_stays, narrow_leaves, exact_leaves}
use Rattle.key_passes.proofs.keep.keep_open.Goals as goal
use Rattle.key_passes.proofs.keep.keep_open.Goals.{then-ne, then-p-gt0, else-p-gt0, else-ne}
use Rattle.key_passes.proofs.keep.keep_open.Goals.{then-ne-2+then-saturating_sub-gt1, else-ne-2}
use Rattle.key_passes.proofs.keep.keep_open.Goals.{else-ne-2-via-then-ne-2+else-saturating_sub-gt1}
use Rattle.key_passes.proofs.keep.keep_open.Goals.{else-ne-2-via-else-ne-2}

pub loop-i-init : goal.loop-i-init
loop-i-init c = keeping_start _ _ _ _ _ _ _ (omega arith) (omega arith)

pub overflow_add-rests : goal.overflow_add-rests
overflow_add-rests c =
    let pre = c.requires in
    let differ = flags_differ _ _ c.ne.ensures c.if-ne.true in
    omega (
      arith,
      keeping_fits _ _ _ _ _ _ _ c.loop-i.invariant pre.bounds_len_bound pre.rising c.loop-i-test.true c.from-v.ensures
          c.from-p.ensures (added_bound _ _ _ differ c.if-p-gt0.true) pre.by_index pre.by_index_2
          c.if-p-gt0.true,
    )

pub loop-i-preserved : goal.loop-i-preserved
loop-i-preserved c =
    let pre = c.requires in
    keeping_on _ _ _ _ _ _ _ c.loop-i.invariant pre.bounds_len_bound pre.rising c.loop-i-test.true c.from-v.ensures
    c.from-p.ensures
    (elim c.if-ne.branch [
      | then-ne w ↦
          let differ = flags_differ _ _ c.ne.ensures w.if-ne.true in
          elim w.if-p-gt0.branch [
            | then-p-gt0 x ↦ passed_bound differ x.if-p-gt0.true w.links-is (w.rests-is ∙ x.rests-is)
            | else-p-gt0 x ↦ passed_source differ x.if-p-gt0.false w.links-is (w.rests-is ∙ x.rests-is)
          ]
      | else-ne w ↦
          passed_same (flags_same _ _ c.ne.ensures w.if-ne.false) c.from-p.ensures w.links-is w.rests-is
    ])
    (elim c.if-ne-2.branch [
      | then-ne-2+then-saturating_sub-gt1 w ↦
          wide_stays _ _ _ (exact_not _ c.ne-in-loop-i.ensures w.if-ne-2.true)
          (rw w.saturating_sub.ensures at w.if-saturating_sub-gt1.true) w.order-is w.next-is
      | else-ne-2 w ↦ elim w.else-ne-2.branch [
        | else-ne-2-via-then-ne-2+else-saturating_sub-gt1 x ↦
            narrow_leaves _ _ _ (exact_not _ c.ne-in-loop-i.ensures x.if-ne-2.true)
            (rw x.saturating_sub.ensures at x.if-saturating_sub-gt1.false) w.order-is w.next-is
        | else-ne-2-via-else-ne-2 x ↦
            exact_leaves _ _ _ (exact_is _ c.ne-in-loop-i.ensures x.if-ne-2.false) w.order-is w.next-is
      ]
    ])
