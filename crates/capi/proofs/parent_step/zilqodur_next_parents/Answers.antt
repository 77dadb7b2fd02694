use Rattle.capi.specs.Structs.{encode_step, decode_step, VerdictUnlessRefused}
use Rattle.capi.proofs.ReadBack.{stands_with, step_back, step_verdict}
use Rattle.capi.proofs.parent_step.zilqodur_next_parents.Goals as goal

pub returns : goal.returns
returns c =
    let stepped = c.next_parents.ensures in
    let r = stands_with (λ s. VerdictUnlessRefused s.verdict s.refusal) encode_step decode_step
    c.from.ensures stepped.result_value (step_back _) (step_verdict _) in
    record { result_value = r.0; value = r.1.0; verdict_unless_refused = r.1.1; parents_after = stepped.parents_after }
