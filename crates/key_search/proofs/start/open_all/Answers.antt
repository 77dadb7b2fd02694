use Rattle.std.proofs.Common.{refl}
use Rattle.basics.proofs.Filling.{filling_list}
use Rattle.key_search.proofs.start.open_all.Goals as goal

pub returns-clause-order_after : goal.returns-clause-order_after
returns-clause-order_after c = filling_list _ _ c.loop-i.invariant.0 c.loop-i-test.false (λ v. v) (λ u. refl)
