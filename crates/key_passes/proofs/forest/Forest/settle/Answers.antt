use Rattle.std.proofs.Common.{ap, ⊎_elim}
use Rattle.key_passes.specs.Passes.{is_below}
use Rattle.key_passes.proofs.Settling.{settling_below, settling_above}
use Rattle.key_passes.proofs.forest.Forest.settle.Goals as goal
use Rattle.key_passes.proofs.forest.Forest.settle.Goals.{in-Below, in-Reached}

pub loop-entry-preserved : goal.loop-entry-preserved
loop-entry-preserved c =
    let pre = c.requires in
    elim c.match-flag.branch [
      | in-Below w ↦
          settling_below _ _ _ _ _ _ _ _ c.loop-entry.invariant c.args.self.now.bounds_len_bound c.args.self.now.rising c.loop-entry-test.true
          c.from-v.ensures c.from.ensures c.flag_of-flag.ensures w.in-Below.is w.lows-is w.highs-is
      | in-Reached w ↦
          settling_above _ _ _ _ _ _ _ _ c.loop-entry.invariant c.args.self.now.bounds_len_bound c.args.self.now.rising c.loop-entry-test.true
          c.from-v.ensures c.from.ensures c.flag_of-flag.ensures
          (⊎_elim (ap is_below) (ap is_below) w.in-Reached.is) w.lows-is w.highs-is
    ]
