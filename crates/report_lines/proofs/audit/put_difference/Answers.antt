use mathlib.Core.Path.{sym, ◌∙◌}
use native.Mathlib.Omega.{arith}
use borrow.Author.Tests.{eq-eqb, ne_eqb}
use mir.Facts.{to_z-of_z}
use Rattle.numbers.proofs.TwosComplement.{zero_bits}
use Rattle.buffer.proofs.Pieces.{put_then, put_none}
use Rattle.report_lines.proofs.audit.put_difference.Goals as goal

pub returns-then-difference-eq0 : goal.returns-then-difference-eq0
returns-then-difference-eq0 c =
    let zero = sym (zero_bits c.ranges.difference) ∙ eq-eqb _ _ c.if-difference-eq0.true in
    record { put = rw zero (put_none _ _ (omega arith)); upper_bound = omega arith }

pub returns : goal.returns
returns c =
    let fits = c.ranges.difference in
    let off = sym (zero_bits fits) ∙ ne_eqb _ _ c.if-difference-eq0.false in
    let signed = rw (to_z-of_z fits) at c.put_labelled_signed-a.ensures.put in
    record { put = rw off (put_then signed c.put.ensures); upper_bound = omega arith }
