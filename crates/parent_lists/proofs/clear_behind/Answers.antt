use Rattle.parent_lists.proofs.Carry.{cleared_is, nothing_cleared}
use Rattle.parent_lists.proofs.clear_behind.Goals as goal

pub returns-then-arc-parents : goal.returns-then-arc-parents
returns-then-arc-parents c = cleared_is _ _ c.if-arc-parents.true (c.fill.ensures.after (λ y e. e))

pub returns-else-arc-parents : goal.returns-else-arc-parents
returns-else-arc-parents c = nothing_cleared _ _ c.if-arc-parents.false
