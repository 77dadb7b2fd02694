use Rattle.capi.specs.Structs.{encode_margin, decode_margin}
use Rattle.capi.proofs.ReadBack.{stands_for, margin_back}
use Rattle.capi.proofs.margin_split.zilqodur_split_margin.Goals as goal

pub returns : goal.returns
returns c =
    let r = stands_for encode_margin decode_margin c.from.ensures
    c.split_margin.ensures.result_value (margin_back _ _ _) in
    record { result_value = r.0; value = r.1; out_after = c.split_margin.ensures.out_after }
