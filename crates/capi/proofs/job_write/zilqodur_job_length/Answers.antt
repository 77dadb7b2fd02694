use Rattle.capi.specs.Structs.{encode_job_length, decode_job_length}
use Rattle.capi.proofs.ReadBack.{stands_for}
use Rattle.capi.proofs.JobBack.{job_length_back}
use Rattle.capi.proofs.job_write.zilqodur_job_length.Goals as goal

pub returns : goal.returns
returns c =
    let it = stands_for encode_job_length decode_job_length c.from.ensures c.job_length.ensures (job_length_back _) in
    record {
      result_value = it.0;
      value = it.1;
    }
