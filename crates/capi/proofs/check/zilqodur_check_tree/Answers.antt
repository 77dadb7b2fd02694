use Rattle.capi.specs.Structs.{encode_check, decode_check}
use Rattle.capi.proofs.Kept.{tree_kept}
use Rattle.capi.proofs.ReadBack.{stands_for}
use Rattle.capi.proofs.check.zilqodur_check_tree.Goals as goal

pub returns : goal.returns
returns c =
    let it = stands_for encode_check decode_check c.from.ensures c.check_tree.ensures (tree_kept _) in
    record {
      result_value = it.0;
      value = it.1;
    }
