use Rattle.capi.specs.Structs.{encode_cap_sums, decode_cap_sums}
use Rattle.capi.proofs.ReadBack.{stands_for, cap_sums_back}
use Rattle.capi.proofs.cap_sums.zilqodur_list_cap_sums.Goals as goal

pub returns : goal.returns
returns c =
    let r = stands_for encode_cap_sums decode_cap_sums c.from.ensures
    c.list_cap_sums.ensures.result_value (cap_sums_back _ _ _) in
    record { result_value = r.0; value = r.1; out_after = c.list_cap_sums.ensures.out_after }
