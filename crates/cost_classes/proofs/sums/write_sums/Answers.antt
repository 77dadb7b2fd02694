use mathlib.Core.Path.{refl}
use native.Mathlib.Omega.{arith}
use lib.ListN.{length}
use Rattle.basics.proofs.Filling.{filling_list}
use Rattle.cost_classes.proofs.sums.write_sums.Invariants.{cut}
use Rattle.cost_classes.proofs.sums.write_sums.Goals as goal

pub returns : goal.returns
returns c =
    let args = c.args in
    filling_list _ _ c.loop-i.invariant (omega arith)
    (cut (length args.out.now) args.classes args.costs.now) (λ u. refl)
