use Rattle.std.proofs.lemmas.Int.{to_z-of_z}
use Rattle.buffer.proofs.Pieces.{put_then}
use Rattle.text.proofs.number.put_labelled_signed.Goals as goal

pub returns-clause-put : goal.returns-clause-put
returns-clause-put c =
    let number = rw (to_z-of_z _ _ c.ranges.n) at c.put_signed.ensures.put in
    put_then c.put-next.ensures number
