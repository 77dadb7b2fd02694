use native.Mathlib.Omega.{arith}
use Rattle.by_arc.proofs.Ways.{way_small, walking_on, way_end}
use Rattle.by_arc.proofs.parts.write_parts.Goals as goal

pub overflow_add-parts : goal.overflow_add-parts
overflow_add-parts c =
    let pre = c.requires in
    omega (
      arith,
      way_small _ _ _ pre.sound pre.costed c.loop-i.invariant c.loop-i-test.true c.from.ensures
          c.at_vertex-above.ensures c.part_of-part.ensures c.from-in-loop-i.ensures,
    )

pub loop-i-preserved : goal.loop-i-preserved
loop-i-preserved c =
    let pre = c.requires in
    walking_on _ _ _ pre.sound pre.costed c.loop-i.invariant c.loop-i-test.true c.from.ensures
    c.at_vertex-above.ensures c.part_of-part.ensures c.from-in-loop-i.ensures pre.counts.sized

pub returns : goal.returns
returns c =
    let pre = c.requires in
    way_end _ _ _ pre.sound pre.costed c.loop-i.invariant c.loop-i-test.false pre.counts.sized
