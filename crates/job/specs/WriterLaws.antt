-- What the writer writes is what the reader reads, both ways.
use Rattle.std.specs.Prelude.{ℕ, ◌≤◌, ◌≡◌, List, ◌++◌, length, take, drop}
use Rattle.answer_forms.specs.Answer.{accepted, value}
use Rattle.job_bytes.specs.Numbers.{Bytes}
use Rattle.job_bytes.specs.JobBytes.{Contents, contents}
use Rattle.job.specs.Reader.{Lent, lent, room_in, JobValue, job_answer, job_lists}
use Rattle.job.specs.Writer.{members_of, length_answer, write_answer, write_output}

-- the reader finds the contents in a job
pub record Holds (job : List ℕ) (c : Contents) (l : Lent) : Type 0 where
  pub answer_is :
      job_answer job l
      ≡ value (record { arcs = length c.parents; members = members_of c; note = length c.note })
  pub lists_are :
      job_lists job l
      ≡ lent
      (c.parents ++ drop (length c.parents) l.parents)
      (c.costs ++ drop (length c.costs) l.costs)
      (c.caps ++ drop (length c.caps) l.caps)
      (c.proposals ++ drop (length c.proposals) l.proposals)
  pub note_is : take (length c.note) job ≡ c.note

-- a written job, cut off at its length, is read with any lists that 10 accepts
abbrev pub WrittenRead : Type 0
WrittenRead = (c : Contents) (out : List ℕ) (n : ℕ) → write_answer c out ≡ value n
    → (l : Lent) → room_in l ≡ accepted → Holds (take n (write_output c out)) c l

-- what was read of a job: its note, and the front of the lists
abbrev pub contents_read : List ℕ → JobValue → Lent → Contents
contents_read job v l =
    contents (take v.note job) (take v.arcs l.parents) (take v.arcs l.costs)
    (take v.members l.caps) (take v.members l.proposals)

-- written with these contents, the job's bytes come out
pub record Rewritten (job : List ℕ) (c : Contents) : Type 0 where
  pub length_is : length_answer c ≡ value (length job)
  pub answer_is : (out : List ℕ) → length job ≤ length out → write_answer c out ≡ value (length job)
  pub output_is : (out : List ℕ) → length job ≤ length out → write_output c out ≡ job ++ drop (length job) out

-- any job that the reader accepts
abbrev pub ReadRewritten : Type 0
ReadRewritten = (job : List ℕ) → Bytes job → (l : Lent) (v : JobValue) → job_answer job l ≡ value v
    → Rewritten job (contents_read job v (job_lists job l))
