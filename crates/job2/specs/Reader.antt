-- What the reader of version 2 answers, and the lent lists afterwards.
use Rattle.std.specs.Prelude.{ℕ, List, [], ◌∷◌, ◌++◌, length, drop, ℤ}
use Rattle.answer_forms.specs.Answer.{Check, Answer, ◌then◌, answer, written}
use Rattle.job_bytes.specs.Format.{job_arcs, job_members, job_parents, job_fillers, job_costs, job_caps, job_proposals}
use Rattle.job_bytes.specs.Format.{job_floors}
use Rattle.job_bytes.specs.declared.version.Version.TheVariants.{Two}
use Rattle.job_checks.specs.JobCheck.{room_check, job_check}
use Rattle.job.specs.Reader.{JobValue, job_value}

-- the lists that are lent to the reader
pub record Lent2 : Type 0 where
  pub parents : List ℕ
  pub costs : List ℕ
  pub marks : List ℕ
  pub caps : List ℕ
  pub proposals : List ℤ
  pub floors : List ℕ

abbrev pub lent2 : (parents costs marks caps : List ℕ) → List ℤ → List ℕ → Lent2
lent2 parents costs marks caps proposals floors =
    record {
      parents = parents;
      costs = costs;
      marks = marks;
      caps = caps;
      proposals = proposals;
      floors = floors;
    }

-- 10
abbrev pub room2_in : Lent2 → Check
room2_in l =
    room_check
    (length l.parents
    ∷ length l.costs
    ∷ length l.marks
    ∷ length l.caps
    ∷ length l.proposals
    ∷ length l.floors
    ∷ [])

-- 10, then the checks on the bytes
unfoldable pub read2_check : List ℕ → Lent2 → Check
read2_check bytes l = room2_in l then job_check Two bytes

-- the number of arcs and of members, and the length of the note
unfoldable pub job2_answer : List ℕ → Lent2 → Answer JobValue
job2_answer bytes l = answer (read2_check bytes l) (job_value bytes)

-- values in the front of a list, whose other entries stay
abbrev pub filled_front : {A : Type 0} → Check → (values : List A) → ℕ → List A → List A
filled_front check values n l = written check l (values ++ drop n l)

-- the values in the front of the lists; the marks are the fillers
unfoldable pub job2_lists : List ℕ → Lent2 → Lent2
job2_lists bytes l =
    let check = read2_check bytes l in
    let m = job_arcs bytes in
    let n = job_members bytes in
    record {
      parents = filled_front check (job_parents bytes) m l.parents;
      costs = filled_front check (job_costs bytes) m l.costs;
      marks = filled_front check (job_fillers bytes) m l.marks;
      caps = filled_front check (job_caps Two bytes) n l.caps;
      proposals = filled_front check (job_proposals Two bytes) n l.proposals;
      floors = filled_front check (job_floors Two bytes) n l.floors;
    }
