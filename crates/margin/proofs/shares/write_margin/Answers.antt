use native.Mathlib.Omega.{arith}
use Rattle.tree.proofs.Vertices.{vertices_few}
use Rattle.margin.proofs.shares.write_margin.Goals as goal

pub slice_bounds-caps-end : goal.slice_bounds-caps-end
slice_bounds-caps-end c =
    let pre = c.requires in
    omega (arith, vertices_few _ _ pre.listed pre.sound)
