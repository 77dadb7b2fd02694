-- What each case of an answer stands for.
use Rattle.std.specs.Prelude.{Result, Ok, Err}
use Rattle.answer_forms.specs.Answer.{Check, accepted, refused, Answer, value, refusal}
use Rattle.answer_forms.specs.Reasons.{number_of}
use Rattle.answer_forms.specs.declared.Refusal.{Refusal}

abbrev pub check_of : Result Unit Refusal → Check
check_of (Ok _) = accepted
check_of (Err r) = refused (number_of r.reason) r.place

-- an entry's answer whose value stands for itself
abbrev pub answer_of : {A : Type 0} → Result A Refusal → Answer A
answer_of (Ok x) = value x
answer_of (Err r) = refusal (number_of r.reason) r.place
