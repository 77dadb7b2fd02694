use native.Mathlib.Omega.{arith}
use mir.Facts.{to_z-of_z}
use Rattle.buffer.proofs.Pieces.{put_then}
use Rattle.report_lines.proofs.member.put_member.Goals as goal

pub returns : goal.returns
returns c =
    let signed = rw (to_z-of_z c.ranges.proposed) at c.put_labelled_signed-c.ensures.put in
    let three = put_then (put_then c.put_number-a.ensures.put c.put_labelled-b.ensures.put) signed in
    let five = put_then (put_then three c.put_labelled-d.ensures.put) c.put_share-e.ensures.put in
    record { put = put_then five c.put.ensures; upper_bound = omega arith }
