use Rattle.capi.specs.Structs.{encode_group, decode_group}
use Rattle.capi.proofs.ReadBack.{stands_for, group_back}
use Rattle.capi.proofs.group.zilqodur_group_cost.Goals as goal

pub returns : goal.returns
returns c =
    let it = stands_for encode_group decode_group c.from.ensures c.group_cost.ensures (group_back _ _) in
    record {
      result_value = it.0;
      value = it.1;
    }
