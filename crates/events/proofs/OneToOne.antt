-- Two states, events, quotes or answers that stand for the same are the same: each can be read back.
use mathlib.Core.Path.{◌≡◌, refl, sym, ap, ◌∙◌}
use Rattle.std.specs.Prelude.{Result, Ok, Err}
use Rattle.answer_forms.specs.Answer.{Answer, value, refusal}
use Rattle.answer_forms.proofs.Reasons.{reason_by, reason_is}
use Rattle.answer_forms.specs.declared.Refusal.{Refusal}
use Rattle.answers.specs.States.{State as HeldState}
use Rattle.answers.specs.Events.{Change as MadeChange, arrive, leave, new_cost, Event as MadeEvent}
use Rattle.answers.specs.Quotes.{Quote as MadeQuote, QuoteValue}
use Rattle.events.specs.Outcomes.{state_of, change_of, event_of, quote_of, quote_given_of}
use Rattle.events.specs.declared.make.State.{State}
use Rattle.events.specs.declared.changes.Change.{Change}
use Rattle.events.specs.declared.changes.Change.TheVariants.{Arrive, Leave, NewCost}
use Rattle.events.specs.declared.changes.Event.{Event}
use Rattle.events.specs.declared.quotes.Quote.{Quote}
use Rattle.events.specs.declared.asking.Quoted.{Quoted}

abbrev state_back : HeldState → State
state_back h =
    record {
      arcs = h.arcs;
      parents = h.parents;
      costs = h.costs;
      marks = h.marks;
      shares = h.shares;
      committed = h.committed;
    }

pub state_one_to_one : (a b : State) → state_of a ≡ state_of b → a ≡ b
state_one_to_one a b = ap state_back

abbrev change_back : MadeChange → Change
change_back arrive = Arrive
change_back leave = Leave
change_back (new_cost amount) = NewCost amount

change_is : (c : Change) → change_back (change_of c) ≡ c
change_is Arrive = refl
change_is Leave = refl
change_is (NewCost amount) = refl

abbrev event_back : MadeEvent → Event
event_back e = record { vertex = e.vertex; change = change_back e.change }

event_is : (e : Event) → event_back (event_of e) ≡ e
event_is e = ap (λ (c : Change). record { vertex = e.vertex; change = c }) (change_is e.change)

pub event_one_to_one : (a b : Event) → event_of a ≡ event_of b → a ≡ b
event_one_to_one a b e = sym (event_is a) ∙ ap event_back e ∙ event_is b

abbrev quote_back : MadeQuote → Quote
quote_back q = record { event = event_back q.event; committed = q.committed }

quote_is : (q : Quote) → quote_back (quote_of q) ≡ q
quote_is q = ap (λ (e : Event). record { event = e; committed = q.committed }) (event_is q.event)

pub quote_one_to_one : (a b : Quote) → quote_of a ≡ quote_of b → a ≡ b
quote_one_to_one a b e = sym (quote_is a) ∙ ap quote_back e ∙ quote_is b

abbrev given_back : Answer QuoteValue → Result Quoted Refusal
given_back (value v) = Ok (record { members = v.members; quote = quote_back v.quote })
given_back (refusal number place) = Err (record { reason = reason_by number; place = place })

given_is : (g : Result Quoted Refusal) → given_back (quote_given_of g) ≡ g
given_is (Ok q) = ap (λ (quote : Quote). Ok (record { members = q.members; quote = quote })) (quote_is q.quote)
given_is (Err r) = ap (λ reason. Err (record { reason = reason; place = r.place })) (reason_is r.reason)

pub given_one_to_one : (a b : Result Quoted Refusal) → quote_given_of a ≡ quote_given_of b → a ≡ b
given_one_to_one a b e = sym (given_is a) ∙ ap given_back e ∙ given_is b
