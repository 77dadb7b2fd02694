-- What a state, an event, a quote and an answer stand for.
use Rattle.std.specs.Prelude.{Result, Ok, Err}
use Rattle.answer_forms.specs.Answer.{Answer, value, refusal}
use Rattle.answer_forms.specs.Reasons.{number_of}
use Rattle.answer_forms.specs.declared.Refusal.{Refusal}
use Rattle.answers.specs.States.{State as HeldState}
use Rattle.answers.specs.Events.{Change as MadeChange, arrive, leave, new_cost, Event as MadeEvent}
use Rattle.answers.specs.Quotes.{Quote as MadeQuote, QuoteValue}
use Rattle.events.specs.declared.make.State.{State}
use Rattle.events.specs.declared.changes.Change.{Change}
use Rattle.events.specs.declared.changes.Change.TheVariants.{Arrive, Leave, NewCost}
use Rattle.events.specs.declared.changes.Event.{Event}
use Rattle.events.specs.declared.quotes.Quote.{Quote}
use Rattle.events.specs.declared.asking.Quoted.{Quoted}

abbrev pub state_of : State → HeldState
state_of s =
    record {
      arcs = s.arcs;
      parents = s.parents;
      costs = s.costs;
      marks = s.marks;
      shares = s.shares;
      committed = s.committed;
    }

abbrev pub change_of : Change → MadeChange
change_of Arrive = arrive
change_of Leave = leave
change_of (NewCost amount) = new_cost amount

abbrev pub event_of : Event → MadeEvent
event_of e = record { vertex = e.vertex; change = change_of e.change }

abbrev pub quote_of : Quote → MadeQuote
quote_of q = record { event = event_of q.event; committed = q.committed }

abbrev pub quote_given_of : Result Quoted Refusal → Answer QuoteValue
quote_given_of (Ok q) = value (record { members = q.members; quote = quote_of q.quote })
quote_given_of (Err r) = refusal (number_of r.reason) r.place
