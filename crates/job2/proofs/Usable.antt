-- What the reader of version 2 fills in, and that the engine's checks accept it.
use Prim.Native.Nat.{ℕ}
use mathlib.Core.Path.{◌≡◌, sym}
use mathlib.Core.List.{List, ◌++◌}
use lib.ListN.{take, drop}
use Rattle.basics.proofs.Lists.{entries_front}
use Rattle.answer_forms.specs.Answer.{accepted}
use Rattle.answer_forms.proofs.Composed.{second_accepted, answered, went_on}
use Rattle.job_bytes.specs.JobBytes.{Held, held}
use Rattle.job_bytes.specs.Format.{arc_offset, member_offset, job_arcs, job_members, job_parents, job_fillers, job_costs}
use Rattle.job_bytes.specs.Format.{job_caps, job_proposals, job_floors, job_held}
use Rattle.job_bytes.specs.Format.{parent_at, filler_at, cost_at, cap_at, proposal_at, floor_at}
use Rattle.job_bytes.specs.declared.version.Version.TheVariants.{Two}
use Rattle.job_checks.specs.JobCheck.{marks_of, job_check}
use Rattle.job_checks.proofs.Accepted.{job_accepted, determined}
use Rattle.job.specs.Reader.{JobValue, job_value}
use Rattle.job2.specs.Reader.{Lent2, lent2, room2_in, read2_check, job2_answer, job2_lists}
use Rattle.job2.specs.Laws.{Usable2, ReadUsable2, Determined2}

module _ (bytes : List ℕ) (l : Lent2) (e : read2_check bytes l ≡ accepted) where
  -- the lists after a job was read
  filled :
      job2_lists bytes l
      ≡ lent2
      (job_parents bytes ++ drop (job_arcs bytes) l.parents)
      (job_costs bytes ++ drop (job_arcs bytes) l.costs)
      (job_fillers bytes ++ drop (job_arcs bytes) l.marks)
      (job_caps Two bytes ++ drop (job_members bytes) l.caps)
      (job_proposals Two bytes ++ drop (job_members bytes) l.proposals)
      (job_floors Two bytes ++ drop (job_members bytes) l.floors)
  unfolding job2_lists
  filled = rw e

  -- what was read: the note, and the front of the lists
  abbrev pub held_read : JobValue → Lent2 → Held
  held_read v k =
      held (take v.note bytes) (take v.arcs k.parents) (take v.arcs k.marks) (take v.arcs k.costs)
      (take v.members k.caps) (take v.members k.proposals) (take v.members k.floors)

  -- it is what the job holds
  pub held_same : held_read (job_value bytes) (job2_lists bytes l) ≡ job_held Two bytes
  held_same =
      let m = job_arcs bytes in
      let n = job_members bytes in
      let o = arc_offset bytes in
      let p = member_offset bytes in
      rw (
        filled,
        entries_front (parent_at bytes o) m (drop m l.parents),
        entries_front (filler_at bytes o) m (drop m l.marks),
        entries_front (cost_at bytes o) m (drop m l.costs),
        entries_front (cap_at Two bytes p) n (drop n l.caps),
        entries_front (proposal_at Two bytes p) n (drop n l.proposals),
        entries_front (floor_at Two bytes p) n (drop n l.floors),
      )

  usable : Usable2 (job_value bytes) (job2_lists bytes l)
  unfolding read2_check marks_of
  usable =
      let ok = job_accepted Two bytes (second_accepted (room2_in l) (job_check Two bytes) e) in
      let m = job_arcs bytes in
      let n = job_members bytes in
      let o = arc_offset bytes in
      let p = member_offset bytes in
      let ps = entries_front (parent_at bytes o) m (drop m l.parents) in
      let cs = entries_front (cost_at bytes o) m (drop m l.costs) in
      let ms = entries_front (filler_at bytes o) m (drop m l.marks) in
      let ks = entries_front (cap_at Two bytes p) n (drop n l.caps) in
      let ss = entries_front (proposal_at Two bytes p) n (drop n l.proposals) in
      let fs = entries_front (floor_at Two bytes p) n (drop n l.floors) in
      let caps = rw (← ok.rows) at ok.caps in
      let floors = rw (← ok.rows) at ok.floors in
      let within = rw (← ok.rows) at ok.within in
      rw filled
      (record {
        tree = rw (ps, cs, ms) ok.tree;
        members = rw (ps, ms) (sym ok.rows);
        limits = rw (ks, fs) (sym (went_on caps (went_on floors (sym within))));
        proposals = rw ss (rw (← ok.rows) at ok.proposals);
      })

pub read_usable2 : ReadUsable2
unfolding job2_answer
read_usable2 bytes l v e =
    let read = answered (read2_check bytes l) (job_value bytes) v e in
    rw read.1 (usable bytes l read.0)

pub determined2 : Determined2
determined2 = determined Two
