use Rattle.job_bytes.specs.JobBytes.{filled_with}
use Rattle.job_bytes.specs.Lists.{contents_of}
use Rattle.job_bytes.proofs.Putting.{job_put}
use Rattle.job_bytes.proofs.put_parts.put_job.Goals as goal

pub returns : goal.returns
returns c =
    job_put c.args.version (filled_with c.args.fillers.now (contents_of c.args.lists.now)) c.put-arc_offset.ensures
    c.put_arcs-member_offset.ensures.put c.put_members-end.ensures.put c.put_trailer.ensures
