-- What the reader answers, and the lent lists afterwards.
use Rattle.std.specs.Prelude.{ℕ, List, [], ◌∷◌, ◌++◌, length, drop, ℤ, Result, Ok, Err}
use Rattle.answer_forms.specs.Answer.{Check, Answer, value, refusal, ◌then◌, answer, written}
use Rattle.answer_forms.specs.Reasons.{number_of}
use Rattle.answer_forms.specs.declared.Refusal.{Refusal}
use Rattle.job_bytes.specs.Format.{arc_offset, job_arcs, job_members, job_parents, job_costs, job_caps, job_proposals}
use Rattle.job_bytes.specs.declared.version.Version.TheVariants.{One}
use Rattle.job_checks.specs.JobCheck.{room_check, job_check}
use Rattle.job.specs.declared.JobRead.{JobRead}

-- the lists that are lent to the reader
pub record Lent : Type 0 where
  pub parents : List ℕ
  pub costs : List ℕ
  pub caps : List ℕ
  pub proposals : List ℤ

abbrev pub lent : List ℕ → List ℕ → List ℕ → List ℤ → Lent
lent parents costs caps proposals = record { parents = parents; costs = costs; caps = caps; proposals = proposals }

-- 10
abbrev pub room_in : Lent → Check
room_in l =
    room_check (length l.parents ∷ length l.costs ∷ length l.caps ∷ length l.proposals ∷ [])

-- 10, then the checks on the bytes
unfoldable pub read_check : List ℕ → Lent → Check
read_check bytes l = room_in l then job_check One bytes

-- the number of arcs and of members, and the length of the note
pub record JobValue : Type 0 where
  pub arcs : ℕ
  pub members : ℕ
  pub note : ℕ

abbrev pub job_value : List ℕ → JobValue
job_value bytes = record { arcs = job_arcs bytes; members = job_members bytes; note = arc_offset bytes }

unfoldable pub job_answer : List ℕ → Lent → Answer JobValue
job_answer bytes l = answer (read_check bytes l) (job_value bytes)

-- the values in the front of the lists, whose other entries stay
unfoldable pub job_lists : List ℕ → Lent → Lent
job_lists bytes l =
    record {
      parents = written (read_check bytes l) l.parents (job_parents bytes ++ drop (job_arcs bytes) l.parents);
      costs = written (read_check bytes l) l.costs (job_costs bytes ++ drop (job_arcs bytes) l.costs);
      caps = written (read_check bytes l) l.caps (job_caps One bytes ++ drop (job_members bytes) l.caps);
      proposals =
          written (read_check bytes l) l.proposals (job_proposals One bytes ++ drop (job_members bytes) l.proposals);
    }

-- what each case of the answer stands for
abbrev pub job_read_of : Result JobRead Refusal → Answer JobValue
job_read_of (Ok r) = value (record { arcs = r.arcs; members = r.members; note = r.note })
job_read_of (Err r) = refusal (number_of r.reason) r.place
