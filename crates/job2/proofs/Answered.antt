-- The reader's answer and lists, by what its checks find.
use Prim.Native.Nat.{ℕ}
use mathlib.Core.Path.{◌≡◌}
use mathlib.Core.List.{List, ◌++◌}
use lib.ListN.{drop}
use lib.IntN.{ℤ}
use Rattle.answer_forms.specs.Answer.{Answer, value, refusal, accepted, refused}
use Rattle.job_bytes.specs.Format.{job_arcs, job_members, job_parents, job_fillers, job_costs, job_caps, job_proposals}
use Rattle.job_bytes.specs.Format.{job_floors}
use Rattle.job_bytes.specs.Inner.{TrailerOf}
use Rattle.job_bytes.specs.declared.version.Version.TheVariants.{Two}
use Rattle.job_checks.specs.JobCheck.{job_check}
use Rattle.job.specs.Reader.{JobValue}
use Rattle.job2.specs.Reader.{Lent2, lent2, room2_in, read2_check, job2_answer, job2_lists}

module _ (bytes : List ℕ) (l : Lent2) where
  -- the answer and the lists are those that are defined
  abbrev pub Answered : Answer JobValue → Lent2 → Type 0
  Answered a after = (a ≡ job2_answer bytes l) × (after ≡ job2_lists bytes l)

  turned_away : {number place : ℕ} → read2_check bytes l ≡ refused number place → Answered (refusal number place) l
  unfolding job2_answer job2_lists
  turned_away e = (rw e, rw e)

  pub no_room : {number place : ℕ} → room2_in l ≡ refused number place → Answered (refusal number place) l
  unfolding read2_check
  no_room e = turned_away (rw e)

  module _ (room : room2_in l ≡ accepted) where
    pub no_job : {number place : ℕ} → job_check Two bytes ≡ refused number place → Answered (refusal number place) l
    unfolding read2_check
    no_job e = turned_away (rw (room, e))

    pub read_job : {offset rows arcs members : ℕ} {parents costs marks caps floors : List ℕ} {proposals : List ℤ}
        → job_check Two bytes ≡ accepted
        → TrailerOf bytes offset rows arcs members
        → parents ≡ job_parents bytes ++ drop (job_arcs bytes) l.parents
        → costs ≡ job_costs bytes ++ drop (job_arcs bytes) l.costs
        → marks ≡ job_fillers bytes ++ drop (job_arcs bytes) l.marks
        → caps ≡ job_caps Two bytes ++ drop (job_members bytes) l.caps
        → proposals ≡ job_proposals Two bytes ++ drop (job_members bytes) l.proposals
        → floors ≡ job_floors Two bytes ++ drop (job_members bytes) l.floors
        → Answered (value (record { arcs = arcs; members = members; note = offset }))
        (lent2 parents costs marks caps proposals floors)
    unfolding read2_check job2_answer job2_lists
    read_job job t ps cs ms ks ss fs = (
      rw (room, job, t.arcs_is, t.members_is, t.arc_offset_is),
      rw (room, job, ps, cs, ms, ks, ss, fs),
    )
