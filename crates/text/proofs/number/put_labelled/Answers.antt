use Rattle.buffer.proofs.Pieces.{put_then}
use Rattle.text.proofs.number.put_labelled.Goals as goal

pub returns-clause-put : goal.returns-clause-put
returns-clause-put c = put_then c.put-next.ensures c.put_number.ensures.put
