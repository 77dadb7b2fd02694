use mathlib.Core.Path.{refl}
use native.Mathlib.Omega.{arith}
use Rattle.basics.proofs.Filling.{filling_list}
use Rattle.game.specs.Tree.{dead_ends}
use Rattle.dead_ends.proofs.write_dead_ends.Goals as goal

pub returns : goal.returns
unfolding dead_ends
returns c = filling_list _ _ c.loop-i.invariant (omega (arith, c.loop-i.invariant.kept)) _ (λ u. refl)
