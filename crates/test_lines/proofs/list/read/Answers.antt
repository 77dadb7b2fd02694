use Rattle.std.proofs.Common.{refl}
use Rattle.std.proofs.lemmas.Fn.{says_at}
use Rattle.test_lines.proofs.Lists.{front_more}
use Rattle.test_lines.proofs.list.read.Goals as goal

pub loop-part-preserved : goal.loop-part-preserved
loop-part-preserved g c =
    front_more _ c.loop-part.invariant c.if-out-n.false (_, says_at g.F.Fn c.in_ok-value.ensures refl)
