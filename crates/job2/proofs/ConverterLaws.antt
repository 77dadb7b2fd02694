-- The laws of the conversions.
use Prim.Native.Nat.{ℕ}
use mathlib.Core.Path.{◌≡◌, refl, sym, ap, ◌∙◌}
use mathlib.Core.List.{List}
use borrow.Author.Tests.{le-ltb}
use lib.ListN.{length, take, drop, replicate}
use lib.Seq.{take_at}
use Rattle.game.specs.Tree.{dead_ends}
use Rattle.answer_forms.specs.Answer.{Check, accepted, value, answer, ◌then◌}
use Rattle.answer_forms.proofs.Composed.{first_accepted, answered}
use Rattle.job_bytes.specs.Numbers.{Bytes}
use Rattle.job_bytes.specs.JobBytes.{Held, Contents, filled_with, job_bytes, plain_job}
use Rattle.job_bytes.specs.declared.version.Version.TheVariants.{One, Two}
use Rattle.job_checks.specs.JobCheck.{job_check, space_check, job_output}
use Rattle.job_checks.proofs.Accepted.{made as held_made}
use Rattle.job.specs.Reader.{Lent, room_in, read_check, JobValue, job_value, job_answer, job_lists}
use Rattle.job.specs.WriterLaws.{contents_read}
use Rattle.job.proofs.Laws.{made}
use Rattle.job.proofs.WriterLaws.{contents_same}
use Rattle.job2.specs.Reader.{Lent2, room2_in, read2_check, job2_answer, job2_lists}
use Rattle.job2.specs.Converter.{other, fillers_in, in_version, back_check}
use Rattle.job2.specs.Converter.{to2_check, to2_answer, to2_output, to1_check, to1_answer, to1_output}
use Rattle.job2.specs.Laws.{Alike, To2Alike, To1Alike, To2AndBack, To1AndBack}
use Rattle.job2.proofs.Readable.{readable}
use Rattle.job2.proofs.Convertible.{held_back, back_accepted}
use Rattle.job2.proofs.Converted.{Same, contents_in, same2, same1}
use Rattle.job2.proofs.Usable.{held_read, held_same}

module _ (one two : List ℕ) (s : Same one two) where
  -- the trailers name the same numbers
  values_same : job_value one ≡ job_value two
  values_same =
      let r = readable One one s.first in
      let q = readable Two two s.second in
      let arcs = sym r.arcs ∙ ap (λ (c : Contents). length c.parents) s.same ∙ q.arcs in
      let members = sym r.members ∙ ap (λ (c : Contents). length c.caps) s.same ∙ q.members in
      let note = sym r.noted ∙ ap (λ (c : Contents). length c.note) s.same ∙ q.noted in
      rw (arcs, members, note)

  module _ (l : Lent) (k : Lent2) (room : room_in l ≡ accepted) (room2 : room2_in k ≡ accepted) where
    reads : read_check one l ≡ accepted
    unfolding read_check
    reads = rw (room, s.first)

    reads2 : read2_check two k ≡ accepted
    unfolding read2_check
    reads2 = rw (room2, s.second)

    -- what is read of both
    contents_read_lem :
        contents_read one (job_value two) (job_lists one l)
        ≡ contents_in (held_read two k reads2 (job_value two) (job2_lists two k))
    contents_read_lem =
        ap (λ (v : JobValue). contents_read one v (job_lists one l)) (sym values_same)
        ∙ contents_same one l reads
        ∙ s.same
        ∙ sym (ap contents_in (held_same two k reads2))

    pub alike : Alike one two l k (job_value two)
    unfolding job_answer job2_answer
    alike =
        let held_is = held_same two k reads2 in
        let q = readable Two two s.second in
        record {
          one_read = rw reads (ap value values_same);
          two_read = rw reads2;
          note = ap (λ (c : Contents). c.note) contents_read_lem;
          parents = ap (λ (c : Contents). c.parents) contents_read_lem;
          costs = ap (λ (c : Contents). c.costs) contents_read_lem;
          caps = ap (λ (c : Contents). c.caps) contents_read_lem;
          proposals = ap (λ (c : Contents). c.proposals) contents_read_lem;
          marks =
              ap (λ (h : Held). h.fillers) held_is
              ∙ s.marks
              ∙ sym (ap (λ (h : Held). dead_ends h.parents) held_is);
          floors =
              ap (λ (h : Held). h.floors) held_is
              ∙ s.floors
              ∙ ap (λ (n : ℕ). replicate n 0) q.members;
        }

-- an output that was written, cut off at the job's length
cut : (first : Check) (job out : List ℕ) (n : ℕ)
    → answer (first then space_check (length out) (length job)) (length job) ≡ value n
    → (first ≡ accepted) × (take n (job_output (first then space_check (length out) (length job)) job out) ≡ job)
cut first job out n e =
    let found = answered (first then space_check (length out) (length job)) (length job) n e in (
      first_accepted first (space_check (length out) (length job)) found.0,
      rw found.0 (take_at job (drop (length job) out) n (sym found.1)),
    )

module _ (bytes out : List ℕ) (n : ℕ) where
  cut2 : to2_answer bytes out ≡ value n
      → (job_check One bytes ≡ accepted) × (take n (to2_output bytes out) ≡ in_version Two bytes)
  unfolding to2_answer to2_output to2_check
  cut2 e = cut (job_check One bytes) (in_version Two bytes) out n e

  cut1 : to1_answer bytes out ≡ value n
      → (back_check bytes ≡ accepted) × (take n (to1_output bytes out) ≡ in_version One bytes)
  unfolding to1_answer to1_output to1_check
  cut1 e = cut (back_check bytes) (in_version One bytes) out n e

pub to2_alike : To2Alike
to2_alike bytes out n e l k room room2 =
    let c = cut2 bytes out n e in
    let s = same2 bytes c.0 in
    rw (c.1, values_same bytes (in_version Two bytes) s) (alike bytes (in_version Two bytes) s l k room room2)

pub to1_alike : To1Alike
to1_alike bytes out n e l k room room2 =
    let c = cut1 bytes out n e in
    rw c.1 (alike (in_version One bytes) bytes (same1 bytes c.0) l k room room2)

-- back to version 1, and to version 2
back_to_1 : (bytes : List ℕ) → Bytes bytes → job_check One bytes ≡ accepted → in_version One (in_version Two bytes) ≡ bytes
unfolding in_version fillers_in other
back_to_1 bytes b e = ap plain_job (sym (same2 bytes e).same) ∙ made bytes b e

back_to_2 : (bytes : List ℕ) → Bytes bytes → (e : back_check bytes ≡ accepted)
    → in_version Two (in_version One bytes) ≡ bytes
unfolding in_version fillers_in other
back_to_2 bytes b e =
    let s = same1 bytes e in
    ap (λ (c : Contents). job_bytes Two (filled_with (dead_ends c.parents) c)) s.same
    ∙ ap (job_bytes Two) (sym (held_back bytes e))
    ∙ held_made Two bytes b s.second

pub to2_and_back : To2AndBack
unfolding to1_answer to1_output to1_check
to2_and_back bytes out back n b e h =
    let c = cut2 bytes out n e in
    let s = same2 bytes c.0 in
    let first = back_accepted (in_version Two bytes) s.second s.marks s.floors in
    rw (c.1, first, back_to_1 bytes b c.0, le-ltb (length back) (length bytes) h) (refl, refl)

pub to1_and_back : To1AndBack
unfolding to2_answer to2_output to2_check
to1_and_back bytes out back n b e h =
    let c = cut1 bytes out n e in
    let s = same1 bytes c.0 in
    rw (c.1, s.first, back_to_2 bytes b c.0, le-ltb (length back) (length bytes) h) (refl, refl)
