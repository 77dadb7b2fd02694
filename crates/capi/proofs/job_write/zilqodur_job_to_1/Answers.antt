use Rattle.capi.specs.Structs.{encode_job_length, decode_job_length}
use Rattle.capi.proofs.ReadBack.{stands_for}
use Rattle.capi.proofs.JobBack.{to1_back}
use Rattle.capi.proofs.job_write.zilqodur_job_to_1.Goals as goal

pub returns : goal.returns
returns c =
    let written = c.job_to_1.ensures in
    let r = stands_for encode_job_length decode_job_length c.from.ensures written.result_value (to1_back _ _) in
    record { result_value = r.0; value = r.1; out_after = written.out_after }
