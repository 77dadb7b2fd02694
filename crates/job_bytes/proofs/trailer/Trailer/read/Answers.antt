use Rattle.std.proofs.Common.{rules}
use Rattle.job_bytes.specs.Format.{arc_offset, member_offset, job_arcs, job_members}
use Rattle.job_bytes.proofs.trailer.Trailer.read.Goals as goal

pub returns : goal.returns
unfolding arc_offset member_offset job_arcs job_members
returns c = search rules
