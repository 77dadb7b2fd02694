use Rattle.capi.proofs.ReadBack.{stands_beside, made_back}
use Rattle.capi.proofs.states.zilqodur_make_state.Goals as goal

pub returns : goal.returns
returns c =
    let made = c.make_state in
    let it =
    stands_beside made.result.state c.from.ensures made.ensures.answer_value (made_back _ _) made.ensures.state_value in
    record { result_value = it.0; value = it.1.0; state_value = it.1.1 }
