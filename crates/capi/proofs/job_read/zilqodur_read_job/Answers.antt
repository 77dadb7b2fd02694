use Rattle.capi.specs.Structs.{encode_job, decode_job}
use Rattle.capi.proofs.ReadBack.{stands_for}
use Rattle.capi.proofs.JobBack.{job_back}
use Rattle.capi.proofs.job_read.zilqodur_read_job.Goals as goal

pub returns : goal.returns
returns c =
    let r = stands_for encode_job decode_job c.from.ensures
    c.read.ensures.result_value (job_back _ _) in
    record { result_value = r.0; value = r.1; proposals_after = c.read.ensures.proposals_after }
