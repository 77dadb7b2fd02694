use mathlib.Core.Path.{refl, sym}
use Rattle.answer_forms.proofs.Composed.{answered, refused_answer}
use Rattle.answers.specs.States.{padded}
use Rattle.answers.specs.Events.{apply_check}
use Rattle.answers.specs.Quotes.{asked_shares}
use Rattle.events.specs.Outcomes.{state_of, event_of}
use Rattle.events.proofs.Carried.{asked_shares_lem}
use Rattle.events.proofs.asking.ask.Goals as goal

pub returns-in-Ok-clause-shares_value : goal.returns-in-Ok-clause-shares_value
returns-in-Ok-clause-shares_value c =
    let s = state_of c.args.state in
    let e = event_of c.args.event in
    let go = (answered (apply_check s e) _ _ (sym c.in-Ok.ensures.answer_value)).0 in
    asked_shares_lem s e _ go c.in-Ok.ensures.state_value

pub returns-in-Err-clause-shares_value : goal.returns-in-Err-clause-shares_value
unfolding asked_shares padded
returns-in-Err-clause-shares_value c =
    rw (refused_answer (apply_check (state_of c.args.state) (event_of c.args.event)) _ c.in-Err.ensures.answer_value) refl
