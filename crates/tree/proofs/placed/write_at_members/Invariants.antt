use mathlib.Core.List.{[]}
use Rattle.tree.specs.Passes.{network_at}
use Rattle.tree.proofs.CapPass.{Placing}
use Rattle.tree.proofs.placed.write_at_members.Given as goal

abbrev pub invariant-loop-j : goal.invariant-loop-j
invariant-loop-j l = Placing (network_at l.parents [] l.vertices) l.values l.out l.j
