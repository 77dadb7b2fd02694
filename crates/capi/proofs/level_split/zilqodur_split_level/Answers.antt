use Rattle.capi.specs.Structs.{encode_level, decode_level}
use Rattle.capi.proofs.ReadBack.{stands_for}
use Rattle.capi.proofs.LevelBack.{level_back}
use Rattle.capi.proofs.level_split.zilqodur_split_level.Goals as goal

pub returns : goal.returns
returns c =
    let r = stands_for encode_level decode_level c.from.ensures
    c.split_level.ensures.result_value (level_back _ _ _ _) in
    record { result_value = r.0; value = r.1; out_after = c.split_level.ensures.out_after }
