use Rattle.buffer.proofs.Pieces.{copy_on}
use Rattle.buffer.proofs.put.Goals as goal

pub loop-i-preserved : goal.loop-i-preserved
loop-i-preserved c = copy_on _ _ _ c.requires c.loop-i.invariant c.loop-i-test.true
