-- The reader's answer and lists, by what its checks find.
use Prim.Native.Nat.{ℕ}
use mathlib.Core.Path.{◌≡◌}
use mathlib.Core.List.{List, ◌++◌}
use lib.ListN.{drop}
use lib.IntN.{ℤ}
use Rattle.answer_forms.specs.Answer.{Answer, value, refusal, accepted, refused}
use Rattle.job_bytes.specs.Format.{job_arcs, job_members, job_parents, job_costs, job_caps, job_proposals}
use Rattle.job_bytes.specs.Inner.{TrailerOf}
use Rattle.job_bytes.specs.declared.version.Version.TheVariants.{One}
use Rattle.job_checks.specs.JobCheck.{job_check}
use Rattle.job.specs.Reader.{Lent, lent, room_in, read_check, JobValue, job_answer, job_lists}

module _ (bytes : List ℕ) (l : Lent) where
  -- the answer and the lists are those that are defined
  abbrev pub Answered : Answer JobValue → Lent → Type 0
  Answered a after = (a ≡ job_answer bytes l) × (after ≡ job_lists bytes l)

  turned_away : {number place : ℕ} → read_check bytes l ≡ refused number place → Answered (refusal number place) l
  unfolding job_answer job_lists
  turned_away e = (rw e, rw e)

  pub no_room : {number place : ℕ} → room_in l ≡ refused number place → Answered (refusal number place) l
  unfolding read_check
  no_room e = turned_away (rw e)

  module _ (room : room_in l ≡ accepted) where
    pub no_job : {number place : ℕ} → job_check One bytes ≡ refused number place → Answered (refusal number place) l
    unfolding read_check
    no_job e = turned_away (rw (room, e))

    pub read_job : {offset rows arcs members : ℕ} {parents costs caps : List ℕ} {proposals : List ℤ}
        → job_check One bytes ≡ accepted
        → TrailerOf bytes offset rows arcs members
        → parents ≡ job_parents bytes ++ drop (job_arcs bytes) l.parents
        → costs ≡ job_costs bytes ++ drop (job_arcs bytes) l.costs
        → caps ≡ job_caps One bytes ++ drop (job_members bytes) l.caps
        → proposals ≡ job_proposals One bytes ++ drop (job_members bytes) l.proposals
        → Answered (value (record { arcs = arcs; members = members; note = offset }))
        (lent parents costs caps proposals)
    unfolding read_check job_answer job_lists
    read_job job t ps cs ks ss = (
      rw (room, job, t.arcs_is, t.members_is, t.arc_offset_is),
      rw (room, job, ps, cs, ks, ss),
    )
