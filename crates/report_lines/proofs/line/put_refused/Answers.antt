use native.Mathlib.Omega.{arith}
use Rattle.buffer.proofs.Pieces.{put_then}
use Rattle.report_lines.proofs.line.put_refused.Goals as goal

pub returns : goal.returns
returns c =
    let number = rw (c.from.ensures, c.number.ensures) at c.put_labelled-a.ensures.put in
    let two = put_then number c.put_labelled-b.ensures.put in
    record { put = put_then two c.put.ensures; upper_bound = omega arith }
