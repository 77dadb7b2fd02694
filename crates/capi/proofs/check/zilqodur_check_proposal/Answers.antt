use Rattle.answers.specs.Checks.{outside_share}
use Rattle.capi.specs.Structs.{encode_check, decode_check}
use Rattle.capi.proofs.Kept.{list_kept}
use Rattle.capi.proofs.ReadBack.{stands_for}
use Rattle.capi.proofs.check.zilqodur_check_proposal.Goals as goal

pub returns : goal.returns
returns c =
    let it = stands_for encode_check decode_check c.from.ensures c.check_proposal.ensures
    (list_kept outside_share c.args.members c.args.proposal.now) in record { result_value = it.0; value = it.1 }
