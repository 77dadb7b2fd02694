use mathlib.Core.Path.{ap, ◌∙◌}
use Rattle.answers.specs.Quotes.{commit_answer, committed_state}
use Rattle.capi.proofs.ReadBack.{stands_beside, committed_back}
use Rattle.capi.proofs.quotes.zilqodur_commit.Goals as goal

pub returns : goal.returns
returns c =
    let committed = c.commit in
    let quote = c.from.ensures in
    let it = stands_beside committed.result.state c.from-2.ensures
    (committed.ensures.answer_value ∙ ap (commit_answer _) quote) (committed_back _ _ _)
    (committed.ensures.state_value ∙ ap (committed_state _) quote) in
    record {
      result_value = it.0;
      value = it.1.0;
      state_value = it.1.1;
    }
