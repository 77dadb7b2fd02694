-- Two answers of the reader, or of the writer, that stand for the same value or refusal are the same: each answer can
-- be read back.
use Prim.Native.Nat.{ℕ}
use mathlib.Core.Path.{◌≡◌, refl, sym, ap, ◌∙◌}
use Rattle.std.specs.Prelude.{Result, Ok, Err}
use Rattle.answer_forms.specs.Answer.{Answer, value, refusal}
use Rattle.answer_forms.specs.Checked.{answer_of}
use Rattle.answer_forms.specs.declared.Refusal.{Refusal}
use Rattle.answer_forms.proofs.OneToOne.{answer_one_to_one}
use Rattle.job.specs.Reader.{JobValue, job_read_of}
use Rattle.job.specs.declared.JobRead.{JobRead}

abbrev job_back : Answer JobValue → Answer JobRead
job_back (value v) = value (record { arcs = v.arcs; members = v.members; note = v.note })
job_back (refusal number place) = refusal number place

job_is : (a : Result JobRead Refusal) → job_back (job_read_of a) ≡ answer_of a
job_is (Ok r) = refl
job_is (Err r) = refl

pub job_read_one_to_one : (a b : Result JobRead Refusal) → job_read_of a ≡ job_read_of b → a ≡ b
job_read_one_to_one a b e = answer_one_to_one a b (sym (job_is a) ∙ ap job_back e ∙ job_is b)

pub job_length_one_to_one : (a b : Result ℕ Refusal) → answer_of a ≡ answer_of b → a ≡ b
job_length_one_to_one = answer_one_to_one
