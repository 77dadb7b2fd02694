use Prim.Native.Nat.{suc}
use mathlib.Core.Bool.{not}
use lib.ListN.{length}
use Rattle.basics.specs.Sum.{pick}
use Rattle.basics.proofs.Filling.{Filling}
use Rattle.game.specs.Tree.{has_child}
use Rattle.dead_ends.proofs.write_dead_ends.Given as goal

abbrev pub invariant-loop-i : goal.invariant-loop-i
invariant-loop-i l = Filling (length l.parents) (λ u. pick (not (has_child l.parents (suc u))) 1) l.out l.i
