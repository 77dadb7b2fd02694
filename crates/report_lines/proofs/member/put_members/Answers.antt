use mathlib.Core.Path.{refl}
use mir.Syntax.{w64}
use mir.Facts.{to_z-of_z}
use Rattle.report_lines.specs.Lines.{member_lines}
use Rattle.buffer.proofs.Listing.{listed_start, listed_on}
use Rattle.report_lines.proofs.member.put_members.Goals as goal

pub loop-j-init : goal.loop-j-init
unfolding member_lines
loop-j-init c = listed_start _ _ _ _ _ c.requires.proposed_in_bounds refl

pub loop-j-preserved : goal.loop-j-preserved
unfolding member_lines
loop-j-preserved c =
    let fits = c.put_member-arg-in-loop-j-1.given in
    let line = rw (to_z-of_z {w = w64} (record { sfits = fits })) at c.put_member-next.ensures.put in
    listed_on _ _ _ _ _ c.requires.proposed_in_bounds c.loop-j.invariant c.loop-j-test.true refl
    line c.put_member-next.ensures.upper_bound
