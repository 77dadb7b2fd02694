use native.Mathlib.Omega.{arith}
use mir.Facts.{to_z-of_z}
use Rattle.buffer.proofs.Pieces.{put_then}
use Rattle.job_bytes.specs.JobBytes.{member_row}
use Rattle.job_bytes.proofs.put_rows.put_member.Goals as goal

pub returns : goal.returns
unfolding member_row
returns c =
    let cap = c.put_number-a.ensures in
    let proposal = c.put_number-b.ensures in
    let floor = c.put_number.ensures in
    let width = c.floor_width.ensures.value in
    let given = to_z-of_z c.ranges.proposal in
    let bits = rw given at c.bits_of.ensures in
    let second = rw bits at proposal.put in
    record {
      put = put_then (put_then cap.put second) (rw width at floor.put);
      value = omega (arith, cap.value, proposal.value, floor.value, width);
    }
