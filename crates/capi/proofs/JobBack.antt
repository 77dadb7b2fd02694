-- What is found on jobs can be read back from its struct.
use Prim.Native.Nat.{ℕ}
use mathlib.Core.Path.{◌≡◌, refl}
use mathlib.Core.List.{List}
use lib.ListN.{length}
use Rattle.answer_forms.specs.Answer.{Check, answer}
use Rattle.job_bytes.specs.JobBytes.{Contents, plain_job}
use Rattle.job_bytes.specs.declared.version.Version.TheVariants.{One, Two}
use Rattle.job.specs.Reader.{Lent, JobValue, read_check, job_answer}
use Rattle.job.specs.Writer.{contents_check, length_answer, write_check, write_answer}
use Rattle.job2.specs.Reader.{Lent2, read2_check, job2_answer}
use Rattle.job2.specs.Converter.{in_version, to2_check, to2_answer, to1_check, to1_answer}
use Rattle.capi.specs.Structs.{encode_job, decode_job, encode_job_length, decode_job_length}
use Rattle.capi.proofs.Kept.{Kept}
use Rattle.capi.proofs.JobKept.{read_kept, read2_kept, contents_kept, write_kept, to2_kept, to1_kept}
use Rattle.capi.proofs.ReadBack.{answer_back}

found_back : (c : Check) (v : JobValue) → Kept c → decode_job (encode_job (answer c v)) ≡ answer c v
found_back = answer_back encode_job decode_job (λ x. refl) (λ n place. refl)

pub job_back : (bytes : List ℕ) (l : Lent) → decode_job (encode_job (job_answer bytes l)) ≡ job_answer bytes l
unfolding job_answer
job_back bytes l = found_back (read_check bytes l) _ (read_kept bytes l)

pub job2_back : (bytes : List ℕ) (l : Lent2) → decode_job (encode_job (job2_answer bytes l)) ≡ job2_answer bytes l
unfolding job2_answer
job2_back bytes l = found_back (read2_check bytes l) _ (read2_kept bytes l)

length_back : (c : Check) (n : ℕ) → Kept c → decode_job_length (encode_job_length (answer c n)) ≡ answer c n
length_back = answer_back encode_job_length decode_job_length (λ x. refl) (λ n place. refl)

pub job_length_back : (c : Contents) → decode_job_length (encode_job_length (length_answer c)) ≡ length_answer c
unfolding length_answer
job_length_back c = length_back (contents_check c) (length (plain_job c)) (contents_kept c)

pub job_written_back : (c : Contents) (out : List ℕ)
    → decode_job_length (encode_job_length (write_answer c out)) ≡ write_answer c out
unfolding write_answer
job_written_back c out = length_back (write_check c out) (length (plain_job c)) (write_kept c out)

module _ (bytes out : List ℕ) where
  pub to2_back : decode_job_length (encode_job_length (to2_answer bytes out)) ≡ to2_answer bytes out
  unfolding to2_answer
  to2_back = length_back (to2_check bytes out) (length (in_version Two bytes)) (to2_kept bytes out)

  pub to1_back : decode_job_length (encode_job_length (to1_answer bytes out)) ≡ to1_answer bytes out
  unfolding to1_answer
  to1_back = length_back (to1_check bytes out) (length (in_version One bytes)) (to1_kept bytes out)
