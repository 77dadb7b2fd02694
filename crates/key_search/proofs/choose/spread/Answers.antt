use Rattle.std.proofs.Common.{◌∙◌}
use Rattle.key_search.proofs.Spreading.{spreading_root, spreading_link}
use Rattle.key_search.proofs.choose.spread.Goals as goal
use Rattle.key_search.proofs.choose.spread.Goals.{then-p-eq0, else-p-eq0}

pub loop-entry-preserved : goal.loop-entry-preserved
loop-entry-preserved c =
    let at_loop = c.loop-entry in
    let forest = c.args.forest.now in
    elim c.if-p-eq0.branch [
      | then-p-eq0 w ↦
          spreading_root _ _ _ _ forest.bounds_len_bound forest.rising c.loop-entry-test.true at_loop.invariant c.from-v.ensures
          c.from-p.ensures w.if-p-eq0.true _ (c.requires _ c.loop-entry-test.true)
          (w.pivots-is ∙ w.clamp.ensures)
      | else-p-eq0 w ↦
          spreading_link _ _ _ _ forest.bounds_len_bound forest.rising c.loop-entry-test.true at_loop.invariant c.from-v.ensures
          c.from-p.ensures w.if-p-eq0.false w.pivots-is
    ]
