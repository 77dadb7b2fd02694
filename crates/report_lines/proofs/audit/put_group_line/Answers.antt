use native.Mathlib.Omega.{arith}
use Rattle.buffer.proofs.Pieces.{put_then}
use Rattle.report_lines.proofs.audit.put_group_line.Goals as goal

pub returns : goal.returns
returns c =
    let two = put_then c.put_labelled-a.ensures.put c.put_labelled-b.ensures.put in
    let four = put_then (put_then two c.put-c.ensures) c.put_group-d.ensures.put in
    record { put = put_then four c.put.ensures; upper_bound = omega (arith, c.requires.members_le_most_arcs) }
