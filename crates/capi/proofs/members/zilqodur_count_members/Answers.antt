use Rattle.capi.specs.Structs.{encode_members, decode_members}
use Rattle.capi.proofs.ReadBack.{stands_for, member_count_back}
use Rattle.capi.proofs.members.zilqodur_count_members.Goals as goal

pub returns : goal.returns
returns c =
    let it = stands_for encode_members decode_members c.from.ensures c.count_members.ensures
    (member_count_back _) in record { result_value = it.0; value = it.1 }
