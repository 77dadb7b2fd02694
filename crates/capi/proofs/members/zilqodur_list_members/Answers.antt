use Rattle.capi.specs.Structs.{encode_members, decode_members}
use Rattle.capi.proofs.ReadBack.{stands_for, members_back}
use Rattle.capi.proofs.members.zilqodur_list_members.Goals as goal

pub returns : goal.returns
returns c =
    let r = stands_for encode_members decode_members c.from.ensures
    c.list_members.ensures.result_value (members_back _ _) in
    record { result_value = r.0; value = r.1; out_after = c.list_members.ensures.out_after }
