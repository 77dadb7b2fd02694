use mathlib.Core.Path.{refl}
use Rattle.basics.specs.Bit.{bit}
use Rattle.report_lines.specs.Lines.{group_text}
use Rattle.buffer.proofs.Listing.{listed_start, listed_on}
use Rattle.report_lines.proofs.audit.put_group.Goals as goal

pub loop-j-init : goal.loop-j-init
unfolding group_text
loop-j-init c = listed_start _ _ _ _ _ c.requires.members_in_bounds refl

pub loop-j-preserved : goal.loop-j-preserved
unfolding group_text bit
loop-j-preserved c =
    listed_on _ _ _ _ _ c.requires.members_in_bounds c.loop-j.invariant c.loop-j-test.true refl
    c.put_if-next.ensures.put c.put_if-next.ensures.upper_bound
