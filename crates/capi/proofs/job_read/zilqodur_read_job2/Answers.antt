use Rattle.capi.specs.Structs.{encode_job, decode_job}
use Rattle.capi.proofs.ReadBack.{stands_for}
use Rattle.capi.proofs.JobBack.{job2_back}
use Rattle.capi.proofs.job_read.zilqodur_read_job2.Goals as goal

pub returns : goal.returns
returns c =
    let read = c.read.ensures in
    let r = stands_for encode_job decode_job c.from.ensures read.result_value (job2_back _ _) in
    record { result_value = r.0; value = r.1; floors_after = read.floors_after }
