use native.Mathlib.Omega.{arith}
use Rattle.buffer.proofs.Pieces.{put_then}
use Rattle.job_bytes.specs.JobBytes.{arc_row}
use Rattle.job_bytes.proofs.put_rows.put_arc.Goals as goal

pub returns : goal.returns
unfolding arc_row
returns c =
    let parent = rw c.from.ensures at c.put_number-a.ensures in
    let filler = rw c.from-2.ensures at c.put_number-b.ensures in
    let cost = rw c.from-3.ensures at c.put_number.ensures in
    record {
      put = put_then (put_then parent.put filler.put) cost.put;
      value = omega (arith, parent.value, filler.value, cost.value);
    }
