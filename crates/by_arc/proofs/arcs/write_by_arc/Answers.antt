use native.Mathlib.Omega.{arith}
use Rattle.tree.proofs.Vertices.{vertices_few}
use Rattle.by_arc.proofs.arcs.write_by_arc.Goals as goal

pub slice_bounds-keys-end : goal.slice_bounds-keys-end
slice_bounds-keys-end c = omega (arith, vertices_few _ _ c.requires.listed c.requires.sound)
