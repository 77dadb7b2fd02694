use Rattle.capi.specs.Structs.{encode_members, decode_members}
use Rattle.capi.proofs.ReadBack.{stands_for, by_arc_back}
use Rattle.capi.proofs.by_arc_split.zilqodur_split_by_arc.Goals as goal

pub returns : goal.returns
returns c =
    let r = stands_for encode_members decode_members c.from.ensures
    c.split_by_arc.ensures.result_value (by_arc_back _ _) in
    record { result_value = r.0; value = r.1; out_after = c.split_by_arc.ensures.out_after }
