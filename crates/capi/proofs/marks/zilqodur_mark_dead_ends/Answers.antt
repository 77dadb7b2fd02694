use Rattle.capi.specs.Structs.{encode_members, decode_members}
use Rattle.capi.proofs.ReadBack.{stands_for, dead_ends_back}
use Rattle.capi.proofs.marks.zilqodur_mark_dead_ends.Goals as goal

pub returns : goal.returns
returns c =
    let r = stands_for encode_members decode_members c.from.ensures
    c.mark_dead_ends.ensures.result_value (dead_ends_back _ _ _) in
    record { result_value = r.0; value = r.1; out_after = c.mark_dead_ends.ensures.out_after }
