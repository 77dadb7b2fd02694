use Rattle.capi.specs.Structs.{encode_needs, decode_needs}
use Rattle.capi.proofs.ReadBack.{stands_for, needs_back}
use Rattle.capi.proofs.needs.zilqodur_list_needs.Goals as goal

pub returns : goal.returns
returns c =
    let r = stands_for encode_needs decode_needs c.from.ensures
    c.list_needs.ensures.result_value (needs_back _ _) in
    record { result_value = r.0; value = r.1; out_after = c.list_needs.ensures.out_after }
