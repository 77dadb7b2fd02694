use native.Mathlib.Omega.{arith}
use Rattle.tree.proofs.Vertices.{vertices_few}
use Rattle.by_arc.proofs.tallies.write_tallies.Goals as goal

pub slice_bounds-order-end : goal.slice_bounds-order-end
slice_bounds-order-end c = omega (arith, vertices_few _ _ c.requires.listed c.requires.sound)
