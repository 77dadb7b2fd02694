-- What a refusal that `?` passes on stands for.
use mathlib.Core.Path.{◌≡◌}
use Rattle.std.specs.Prelude.{Result}
use Rattle.std.specs.Result.{IsErrAnd}
use Rattle.std.proofs.lemmas.Result.{err_from_is_err_and}
use Rattle.answer_forms.specs.Answer.{Check, refused}
use Rattle.answer_forms.specs.Checked.{check_of}
use Rattle.answer_forms.specs.Reasons.{number_of}
use Rattle.answer_forms.specs.declared.Refusal.{Refusal}

pub passed_on : {check : Check} (e : Refusal) (r : Result Unit Refusal) → IsErrAnd r (λ x. x ≡ e)
    → refused (number_of e.reason) e.place ≡ check → check_of r ≡ check
passed_on e r is found = let p = err_from_is_err_and r is in rw (p.1, p.2) found
