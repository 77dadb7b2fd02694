use Rattle.capi.specs.Structs.{encode_job_length, decode_job_length}
use Rattle.capi.proofs.ReadBack.{stands_for}
use Rattle.capi.proofs.JobBack.{job_written_back}
use Rattle.capi.proofs.job_write.zilqodur_write_job.Goals as goal

pub returns : goal.returns
returns c =
    let written = c.write_job.ensures in
    let r =
    stands_for encode_job_length decode_job_length c.from.ensures written.result_value (job_written_back _ _) in
    record { result_value = r.0; value = r.1; out_after = written.out_after }
