use Rattle.capi.specs.Structs.{encode_total, decode_total, VerdictUnlessRefused}
use Rattle.capi.proofs.ReadBack.{stands_with, total_back, total_verdict}
use Rattle.capi.proofs.total.zilqodur_check_total.Goals as goal

pub returns : goal.returns
returns c =
    let it = stands_with (λ s. VerdictUnlessRefused s.verdict s.refusal) encode_total decode_total
    c.from.ensures c.check_total.ensures (total_back _) (total_verdict _ _) in
    record {
      result_value = it.0;
      value = it.1.0;
      verdict_unless_refused = it.1.1;
    }
