use Rattle.buffer.proofs.Pieces.{put_then}
use Rattle.job_bytes.specs.JobBytes.{trailer}
use Rattle.job_bytes.proofs.put_parts.put_trailer.Goals as goal

pub returns : goal.returns
unfolding trailer
returns c =
    let offsets = put_then c.put_number-a.ensures.put c.put_number-b.ensures.put in
    let counts = put_then (put_then offsets c.put_number-c.ensures.put)
    c.put_number-d.ensures.put in
    let version = rw c.number.ensures at c.put_number-e.ensures.put in
    put_then (put_then counts version) c.put.ensures
