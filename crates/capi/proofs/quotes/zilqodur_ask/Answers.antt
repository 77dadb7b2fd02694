use mathlib.Core.Path.{ap, ◌∙◌}
use Rattle.answers.specs.Quotes.{ask_answer, asked_shares}
use Rattle.capi.proofs.ReadBack.{stands_quoted, asked_back}
use Rattle.capi.proofs.quotes.zilqodur_ask.Goals as goal

pub returns : goal.returns
returns c =
    let asked = c.ask in
    let event = c.from.ensures in
    let it =
    stands_quoted asked.result.shares c.from-2.ensures (asked.ensures.answer_value ∙ ap (ask_answer _) event)
    (asked_back _ _ _) (asked.ensures.shares_value ∙ ap (asked_shares _) event) in
    record {
      result_value = it.0;
      value = it.1.0;
      shares_value = it.1.1;
    }
