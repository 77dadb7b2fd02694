-- The laws of the writer.
use Prim.Native.Nat.{ℕ, ◌≤◌}
use mathlib.Core.Path.{◌≡◌, sym, ap, ap₂, ◌∙◌}
use mathlib.Core.List.{List, ◌++◌}
use native.Mathlib.Omega.{arith}
use borrow.Author.Tests.{le-ltb}
use lib.ListN.{length, take, drop}
use lib.Seq.{take_at, length-take-le}
use Rattle.basics.proofs.Lists.{entries_front}
use Rattle.answer_forms.specs.Answer.{accepted, value}
use Rattle.answer_forms.proofs.Composed.{first_accepted, second_accepted, answered}
use Rattle.job_bytes.specs.Numbers.{Bytes}
use Rattle.job_bytes.specs.JobBytes.{Held, Contents, contents, plain, plain_job}
use Rattle.job_bytes.specs.declared.version.Version.TheVariants.{One}
use Rattle.job_bytes.specs.Format.{arc_offset, member_offset, job_arcs, job_members, job_contents}
use Rattle.job_bytes.specs.Format.{parent_at, cost_at, cap_at, proposal_at}
use Rattle.job_bytes.proofs.ReadBack.{Fitting, arc_offset_is, arcs_is, members_is, held_are}
use Rattle.job_form.proofs.FormAccepted.{form_layout}
use Rattle.job_checks.specs.JobCheck.{marks_of, job_check}
use Rattle.job_form.specs.Form.{longest_note}
use Rattle.job.specs.Reader.{Lent, lent, room_in, read_check, job_value, job_answer, job_lists}
use Rattle.job.specs.Writer.{members_of, contents_check}
use Rattle.job_checks.specs.JobCheck.{space_check}
use Rattle.job.specs.Writer.{write_check, length_answer, write_answer, write_output}
use Rattle.job.specs.WriterLaws.{Holds, WrittenRead, contents_read, Rewritten, ReadRewritten}
use Rattle.job_checks.proofs.Accepted.{JobAccepted, job_accepted}
use Rattle.job.proofs.Laws.{filled, made}
use Rattle.job_checks.proofs.Made.{fits, members_are, job_made}
use Rattle.job.proofs.Writable.{Writable, writable, accepts, fillable}

-- what a reader with these lists finds in a job that holds this, with so many rows
abbrev found_in : Contents → ℕ → ℕ → Lent → Lent
found_in c arcs members l =
    lent (c.parents ++ drop arcs l.parents) (c.costs ++ drop arcs l.costs) (c.caps ++ drop members l.caps)
    (c.proposals ++ drop members l.proposals)

module _ (c : Contents) (ok : Writable c) (l : Lent) (room : room_in l ≡ accepted) where
  f : Fitting One (plain c)
  f = fits One _ c (fillable c ok)

  contents_are : job_contents One (plain_job c) ≡ c
  contents_are =
      ap (λ (h : Held). contents h.note h.parents h.costs h.caps h.proposals) (held_are One (plain c) f)

  reads : read_check (plain_job c) l ≡ accepted
  unfolding read_check
  reads = rw room (job_made One _ c (fillable c ok))

  answer_is :
      job_answer (plain_job c) l
      ≡ value (record { arcs = length c.parents; members = members_of c; note = length c.note })
  unfolding job_answer marks_of
  answer_is =
      let members = members_is One (plain c) f ∙ members_are One _ c (fillable c ok) in
      rw (reads, arcs_is One (plain c) f, members, arc_offset_is One (plain c) f)

  lists_are :
      job_lists (plain_job c) l
      ≡ lent
      (c.parents ++ drop (length c.parents) l.parents)
      (c.costs ++ drop (length c.costs) l.costs)
      (c.caps ++ drop (length c.caps) l.caps)
      (c.proposals ++ drop (length c.proposals) l.proposals)
  lists_are =
      let rows : found_in (job_contents One (plain_job c)) (job_arcs (plain_job c)) (job_members (plain_job c)) l
      ≡ found_in c (length c.parents) (length c.caps) l =
      ap (λ (k : Contents). found_in k (job_arcs (plain_job c)) (job_members (plain_job c)) l) contents_are
      ∙ ap₂ (λ (m n : ℕ). found_in c m n l) (arcs_is One (plain c) f) (members_is One (plain c) f) in
      filled (plain_job c) l reads ∙ rows ∙ rw (f.matched.costed, f.matched.proposed)

  note_is : take (length c.note) (plain_job c) ≡ c.note
  note_is = rw (arc_offset_is One (plain c) f) at (ap (λ (k : Contents). k.note) contents_are)

  -- the job made of accepted contents, as the reader finds it
  holds : Holds (plain_job c) c l
  holds = record { answer_is = answer_is; lists_are = lists_are; note_is = note_is }

pub written_read : WrittenRead
unfolding write_answer write_output write_check
written_read c out n e l room =
    let found = answered (write_check c out) (length (plain_job c)) n e in
    let ok = writable c (first_accepted (contents_check c) (space_check (length out) (length (plain_job c))) found.0) in
    let cut : take n (write_output c out) ≡ plain_job c =
    rw found.0 (take_at (plain_job c) (drop (length (plain_job c)) out) n (sym found.1)) in
    rw cut (holds c ok l room)

-- a job that was read
module _ (job : List ℕ) (b : Bytes job) (e : job_check One job ≡ accepted) where
  ok : JobAccepted One job
  ok = job_accepted One job e

  noted : length (take (arc_offset job) job) ≤ longest_note
  noted =
      let layout = form_layout One job ok.form in
      let long = length-take-le (arc_offset job) job (omega (arith, layout.arcs_end, layout.members_end)) in
      omega (arith, long, layout.note_short)

  held : Writable (job_contents One job)
  unfolding marks_of
  held = record { tree = ok.tree; caps = ok.caps; proposals = ok.proposals; note = noted }

  rewritten : Rewritten job (job_contents One job)
  unfolding length_answer write_answer write_output write_check
  rewritten =
      let same = made job b e in
      let accepts_it = accepts (job_contents One job) held in
      record {
        length_is = rw (accepts_it, same);
        answer_is = λ out h. rw (accepts_it, same, le-ltb (length out) (length job) h);
        output_is = λ out h. rw (accepts_it, same, le-ltb (length out) (length job) h);
      }

-- what was read is what the job holds
pub contents_same : (job : List ℕ) (l : Lent) → read_check job l ≡ accepted
    → contents_read job (job_value job) (job_lists job l) ≡ job_contents One job
contents_same job l e =
    let m = job_arcs job in
    let n = job_members job in
    rw (
      filled job l e,
      entries_front (parent_at job (arc_offset job)) m (drop m l.parents),
      entries_front (cost_at job (arc_offset job)) m (drop m l.costs),
      entries_front (cap_at One job (member_offset job)) n (drop n l.caps),
      entries_front (proposal_at One job (member_offset job)) n (drop n l.proposals),
    )

pub read_rewritten : ReadRewritten
unfolding job_answer read_check
read_rewritten job b l v e =
    let read = answered (read_check job l) (job_value job) v e in
    let accepted_job = second_accepted (room_in l) (job_check One job) read.0 in
    rw (read.1, contents_same job l read.0) (rewritten job b accepted_job)
