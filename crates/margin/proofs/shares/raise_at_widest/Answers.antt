use Rattle.margin.proofs.AtRaised.{lists_measured, arc_used}
use Rattle.margin.proofs.shares.raise_at_widest.Goals as goal

pub find_margin-requires-clause-measured : goal.find_margin-requires-clause-measured
find_margin-requires-clause-measured c =
    lists_measured _ _ _ c.write_needs.ensures.out_after c.write_user_counts.ensures

pub find_margin-requires-clause-arc_nonzero : goal.find_margin-requires-clause-arc_nonzero
find_margin-requires-clause-arc_nonzero c =
    let pre = c.requires in
    arc_used _ _ _ pre.sound pre.costed pre.listed _ pre.branched pre.vertices_nonzero
