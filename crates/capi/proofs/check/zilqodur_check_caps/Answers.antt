use Rattle.answers.specs.Level.{outside_cap}
use Rattle.capi.specs.Structs.{encode_check, decode_check}
use Rattle.capi.proofs.Kept.{list_kept}
use Rattle.capi.proofs.ReadBack.{stands_for}
use Rattle.capi.proofs.check.zilqodur_check_caps.Goals as goal

pub returns : goal.returns
returns c =
    let it = stands_for encode_check decode_check c.from.ensures c.check_caps.ensures
    (list_kept outside_cap c.args.members c.args.caps.now) in record { result_value = it.0; value = it.1 }
