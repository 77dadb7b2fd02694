-- The struct of each answer, and the answer that a struct stands for. A refusal of 0 means that there is none.
use Rattle.std.specs.Prelude.{ℕ, zero, suc, ◌≡◌, not, cond, List, length, eqb, ℤ, pos}
use Rattle.answer_forms.specs.Answer.{Check, accepted, refused, Answer, value, refusal}
use Rattle.answers.specs.Needs.{NeedsValue}
use Rattle.answers.specs.GroupCost.{GroupCostValue}
use Rattle.answers.specs.Audit.{Verdict, found, none}
use Rattle.answers.specs.Level.{LevelAnswer, split, refusal as not_split}
use Rattle.answers.specs.Margin.{MarginValue}
use Rattle.answers.specs.ParentLists.{Step, next, end}
use Rattle.answers.specs.Events.{Change, arrive, leave, new_cost, Event, event_at}
use Rattle.answers.specs.Quotes.{Quote, QuoteValue}
use Rattle.numbers.specs.Signed.{is_zero}
use Rattle.events.specs.declared.make.State.{State}
use Rattle.job.specs.Reader.{JobValue}
use Rattle.capi.specs.declared.check.ZilqodurCheck.{ZilqodurCheck}
use Rattle.capi.specs.declared.members.ZilqodurMembers.{ZilqodurMembers}
use Rattle.capi.specs.declared.needs.ZilqodurNeeds.{ZilqodurNeeds}
use Rattle.capi.specs.declared.group.ZilqodurGroup.{ZilqodurGroup}
use Rattle.capi.specs.declared.group_search.ZilqodurSearch.{ZilqodurSearch}
use Rattle.capi.specs.declared.total.ZilqodurTotal.{ZilqodurTotal}
use Rattle.capi.specs.declared.cap_sums.ZilqodurCapSums.{ZilqodurCapSums}
use Rattle.capi.specs.declared.level_split.ZilqodurLevel.{ZilqodurLevel}
use Rattle.capi.specs.declared.margin_split.ZilqodurMargin.{ZilqodurMargin}
use Rattle.capi.specs.declared.class_split.ZilqodurClassSplit.{ZilqodurClassSplit}
use Rattle.capi.specs.declared.parent_step.ZilqodurStep.{ZilqodurStep}
use Rattle.capi.specs.declared.states.ZilqodurEvent.{ZilqodurEvent}
use Rattle.capi.specs.declared.states.ZilqodurStateAnswer.{ZilqodurStateAnswer}
use Rattle.capi.specs.declared.quotes.ZilqodurQuote.{ZilqodurQuote}
use Rattle.capi.specs.declared.quotes.ZilqodurQuoteAnswer.{ZilqodurQuoteAnswer}
use Rattle.capi.specs.declared.job_read.ZilqodurJob.{ZilqodurJob}
use Rattle.capi.specs.declared.job_write.ZilqodurJobLength.{ZilqodurJobLength}
use Rattle.capi.specs.declared.report.ZilqodurReport.{ZilqodurReport}

-- the value where the refusal's number is 0
abbrev pub value_or : {A : Type 0} → (number place : ℕ) → A → Answer A
value_or zero place x = value x
value_or (suc n) place x = refusal (suc n) place

abbrev pub encode_check : Check → ZilqodurCheck
encode_check accepted = record { refusal = 0; place = 0 }
encode_check (refused number place) = record { refusal = number; place = place }

-- nothing found where the refusal's number is 0
abbrev pub accepted_or : (number place : ℕ) → Check
accepted_or zero place = accepted
accepted_or (suc n) place = refused (suc n) place

abbrev pub decode_check : ZilqodurCheck → Check
decode_check s = accepted_or s.refusal s.place

abbrev pub encode_members : Answer ℕ → ZilqodurMembers
encode_members (value n) = record { refusal = 0; place = 0; members = n }
encode_members (refusal number place) = record { refusal = number; place = place; members = 0 }

abbrev pub decode_members : ZilqodurMembers → Answer ℕ
decode_members s = value_or s.refusal s.place s.members

abbrev pub encode_needs : Answer NeedsValue → ZilqodurNeeds
encode_needs (value v) = record { refusal = 0; place = 0; whole = v.whole; members = v.members }
encode_needs (refusal number place) = record { refusal = number; place = place; whole = 0; members = 0 }

abbrev pub decode_needs : ZilqodurNeeds → Answer NeedsValue
decode_needs s = value_or s.refusal s.place (record { whole = s.whole; members = s.members })

abbrev pub encode_group : Answer GroupCostValue → ZilqodurGroup
encode_group (value v) = record { refusal = 0; place = 0; size = v.size; cost = v.cost }
encode_group (refusal number place) = record { refusal = number; place = place; size = 0; cost = 0 }

abbrev pub decode_group : ZilqodurGroup → Answer GroupCostValue
decode_group s = value_or s.refusal s.place (record { size = s.size; cost = s.cost })

-- a search that is not refused
abbrev pub searched_struct : (verdict amount size : ℕ) → List ℕ → ZilqodurSearch
searched_struct verdict amount size words =
    record { refusal = 0; place = 0; verdict = verdict; amount = amount; size = size; group = words }

-- the verdict is 0 in a refusal, 1 where there is no group, 2 where one is found
abbrev pub encode_search : Answer Verdict → List ℕ → ZilqodurSearch
encode_search (value none) words = searched_struct 1 0 0 words
encode_search (value (found amount size)) words = searched_struct 2 amount size words
encode_search (refusal number place) words =
    record { refusal = number; place = place; verdict = 0; amount = 0; size = 0; group = words }

-- what the struct stands for, by its verdict
abbrev pub search_by : ZilqodurSearch → (verdict : ℕ) → Answer Verdict
search_by s zero = refusal s.refusal s.place
search_by s (suc zero) = value none
search_by s (suc (suc n)) = value (found s.amount s.size)

abbrev pub decode_search : ZilqodurSearch → Answer Verdict
decode_search s = search_by s s.verdict

-- the verdict is 0 in a refusal, 1 where the proposal adds up, 2 where it is off
abbrev pub encode_total : Answer ℤ → ZilqodurTotal
encode_total (value d) = record { refusal = 0; place = 0; verdict = cond (is_zero d) 1 2; difference = d }
encode_total (refusal number place) = record { refusal = number; place = place; verdict = 0; difference = pos 0 }

-- what the struct stands for, by its verdict
abbrev pub total_by : ZilqodurTotal → (verdict : ℕ) → Answer ℤ
total_by s zero = refusal s.refusal s.place
total_by s (suc n) = value s.difference

abbrev pub decode_total : ZilqodurTotal → Answer ℤ
decode_total s = total_by s s.verdict

-- the verdict is 0 in a refusal, 1 where a list follows, 2 at the end
abbrev pub encode_step : Answer Step → ZilqodurStep
encode_step (value next) = record { refusal = 0; place = 0; verdict = 1 }
encode_step (value end) = record { refusal = 0; place = 0; verdict = 2 }
encode_step (refusal number place) = record { refusal = number; place = place; verdict = 0 }

-- what the struct stands for, by its verdict
abbrev pub step_by : ZilqodurStep → (verdict : ℕ) → Answer Step
step_by s zero = refusal s.refusal s.place
step_by s (suc zero) = value next
step_by s (suc (suc n)) = value end

abbrev pub decode_step : ZilqodurStep → Answer Step
decode_step s = step_by s s.verdict

-- the verdict is 0 exactly where the refusal is not
abbrev pub VerdictUnlessRefused : (verdict number : ℕ) → Type 0
VerdictUnlessRefused verdict number = eqb verdict 0 ≡ not (eqb number 0)

abbrev pub encode_cap_sums : Answer ℕ → ZilqodurCapSums
encode_cap_sums (value n) = record { refusal = 0; place = 0; total = n }
encode_cap_sums (refusal number place) = record { refusal = number; place = place; total = 0 }

abbrev pub decode_cap_sums : ZilqodurCapSums → Answer ℕ
decode_cap_sums s = value_or s.refusal s.place s.total

abbrev pub encode_margin : Answer MarginValue → ZilqodurMargin
encode_margin (value v) = record { refusal = 0; place = 0; margin = v.margin; users = v.users }
encode_margin (refusal number place) = record { refusal = number; place = place; margin = 0; users = 0 }

abbrev pub decode_margin : ZilqodurMargin → Answer MarginValue
decode_margin s = value_or s.refusal s.place (record { margin = s.margin; users = s.users })

-- the totals stand beside the answer
abbrev pub encode_classes : Answer ℕ → List ℕ → ZilqodurClassSplit
encode_classes (value n) totals = record { refusal = 0; place = 0; members = n; totals = totals }
encode_classes (refusal number place) totals =
    record { refusal = number; place = place; members = 0; totals = totals }

abbrev pub decode_classes : ZilqodurClassSplit → Answer ℕ
decode_classes s = value_or s.refusal s.place s.members

abbrev pub encode_level : LevelAnswer → ZilqodurLevel
encode_level (split members) = record { refusal = 0; place = 0; shortfall = 0; members = members }
encode_level (not_split number place shortfall) =
    record { refusal = number; place = place; shortfall = shortfall; members = 0 }

-- a split where the refusal's number is 0
abbrev pub split_or : (number place shortfall members : ℕ) → LevelAnswer
split_or zero place shortfall members = split members
split_or (suc n) place shortfall members = not_split (suc n) place shortfall

abbrev pub decode_level : ZilqodurLevel → LevelAnswer
decode_level s = split_or s.refusal s.place s.shortfall s.members

-- the state is the one beside the answer, in a refusal too
abbrev pub encode_state : Answer ℕ → State → ZilqodurStateAnswer
encode_state (value n) s = record { refusal = 0; place = 0; members = n; state = s }
encode_state (refusal number place) s = record { refusal = number; place = place; members = 0; state = s }

abbrev pub decode_state : ZilqodurStateAnswer → Answer ℕ
decode_state s = value_or s.refusal s.place s.members

-- the change that a kind and an amount stand for
abbrev pub change_by : (kind amount : ℕ) → Change
change_by zero amount = arrive
change_by (suc zero) amount = leave
change_by (suc (suc n)) amount = new_cost amount

abbrev pub event_by : ZilqodurEvent → Event
event_by e = event_at e.vertex (change_by e.kind e.amount)

-- the event of a quote: the kind is 0, 1 or 2, and the amount 0 unless it is a new cost's
abbrev pub encode_event : (vertex : ℕ) → Change → ZilqodurEvent
encode_event v arrive = record { vertex = v; kind = 0; amount = 0 }
encode_event v leave = record { vertex = v; kind = 1; amount = 0 }
encode_event v (new_cost amount) = record { vertex = v; kind = 2; amount = amount }

abbrev pub encode_quote : Quote → ZilqodurQuote
encode_quote q = record { event = encode_event q.event.vertex q.event.change; committed = q.committed }

abbrev pub quote_by : ZilqodurQuote → Quote
quote_by q = record { event = event_by q.event; committed = q.committed }

-- a refusal has no quote: its fields are 0
abbrev pub no_quote : ZilqodurQuote
no_quote = record { event = record { vertex = 0; kind = 0; amount = 0 }; committed = 0 }

-- the shares are those beside the answer
abbrev pub encode_asked : Answer QuoteValue → List ℕ → ZilqodurQuoteAnswer
encode_asked (value v) shares =
    record { refusal = 0; place = 0; members = v.members; quote = encode_quote v.quote; shares = shares }
encode_asked (refusal number place) shares =
    record { refusal = number; place = place; members = 0; quote = no_quote; shares = shares }

abbrev pub decode_asked : ZilqodurQuoteAnswer → Answer QuoteValue
decode_asked s = value_or s.refusal s.place (record { members = s.members; quote = quote_by s.quote })

abbrev pub encode_job : Answer JobValue → ZilqodurJob
encode_job (value v) = record { refusal = 0; place = 0; arcs = v.arcs; members = v.members; note = v.note }
encode_job (refusal number place) = record { refusal = number; place = place; arcs = 0; members = 0; note = 0 }

abbrev pub decode_job : ZilqodurJob → Answer JobValue
decode_job s = value_or s.refusal s.place (record { arcs = s.arcs; members = s.members; note = s.note })

abbrev pub encode_job_length : Answer ℕ → ZilqodurJobLength
encode_job_length (value n) = record { refusal = 0; place = 0; length = n }
encode_job_length (refusal number place) = record { refusal = number; place = place; length = 0 }

abbrev pub decode_job_length : ZilqodurJobLength → Answer ℕ
decode_job_length s = value_or s.refusal s.place s.length

-- the report's length, and no refusal
abbrev pub encode_report : List ℕ → ZilqodurReport
encode_report text = record { refusal = 0; place = 0; length = length text }
