use native.Mathlib.Omega.{arith}
use Rattle.dead_ends.proofs.ChildPass.{naming_start, naming_end}
use Rattle.dead_ends.proofs.find_children.Goals as goal

pub loop-parent-init : goal.loop-parent-init
loop-parent-init c = naming_start _

pub returns : goal.returns
returns c = naming_end _ (omega arith) c.loop-parent.invariant
