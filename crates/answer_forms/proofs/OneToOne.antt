-- Two answers that stand for the same value or refusal are the same: each answer can be read back.
use Prim.Native.Nat.{ℕ}
use mathlib.Core.Path.{◌≡◌, refl, sym, ap, ◌∙◌}
use Rattle.std.specs.Prelude.{Result, Ok, Err}
use Rattle.answer_forms.specs.Answer.{Answer, value, refusal}
use Rattle.answer_forms.specs.Checked.{answer_of}
use Rattle.answer_forms.specs.Reasons.{number_of}
use Rattle.answer_forms.proofs.Reasons.{reason_by, reason_is}
use Rattle.answer_forms.specs.declared.Refusal.{Refusal}

pub read_back : {A B : Type 0} (of : A → B) (back : B → A) → ((a : A) → back (of a) ≡ a) → (a b : A) → of a ≡ of b → a ≡ b
read_back of back is a b e = sym (is a) ∙ ap back e ∙ is b

-- the refusal with a number and a place
abbrev pub refusal_by : ℕ → ℕ → Refusal
refusal_by number place = record { reason = reason_by number; place = place }

pub refusal_is : (r : Refusal) → refusal_by (number_of r.reason) r.place ≡ r
refusal_is r = ap (λ reason. record { reason = reason; place = r.place }) (reason_is r.reason)

-- a refused answer is read back, whatever the value
pub error_is : {A : Type 0} (r : Refusal) → ◌≡◌ {A = Result A Refusal} (Err (refusal_by (number_of r.reason) r.place)) (Err r)
error_is r = ap Err (refusal_is r)

module _ {A : Type 0} where
  abbrev answer_back : Answer A → Result A Refusal
  answer_back (value x) = Ok x
  answer_back (refusal number place) = Err (refusal_by number place)

  answer_is : (a : Result A Refusal) → answer_back (answer_of a) ≡ a
  answer_is (Ok x) = refl
  answer_is (Err r) = error_is r

  -- the numbers of members, the sums of caps and the totals among them
  pub answer_one_to_one : (a b : Result A Refusal) → answer_of a ≡ answer_of b → a ≡ b
  answer_one_to_one = read_back answer_of answer_back answer_is
