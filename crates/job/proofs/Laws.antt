-- The laws of the reader.
use Prim.Native.Nat.{ℕ}
use mathlib.Core.Path.{◌≡◌, sym, ap, ◌∙◌}
use mathlib.Core.List.{List, ◌++◌}
use lib.ListN.{drop}
use Rattle.basics.proofs.Lists.{entries_front}
use Rattle.answer_forms.specs.Answer.{accepted}
use Rattle.answer_forms.proofs.Composed.{second_accepted, answered}
use Rattle.job_bytes.specs.Numbers.{Bytes}
use Rattle.job_bytes.specs.JobBytes.{job_bytes, plain_job}
use Rattle.job_bytes.specs.Format.{arc_offset, member_offset, job_arcs, job_members, job_contents}
use Rattle.job_bytes.specs.Format.{parent_at, cost_at, cap_at, proposal_at, job_parents, job_costs, job_caps, job_proposals}
use Rattle.job_bytes.specs.declared.version.Version.TheVariants.{One}
use Rattle.job_checks.proofs.Plain.{held_plain}
use Rattle.job_checks.specs.JobCheck.{marks_of, job_check}
use Rattle.job.specs.Reader.{Lent, lent, room_in, read_check, job_value, job_answer, job_lists}
use Rattle.job.specs.Laws.{Usable, ReadUsable, Determined}
use Rattle.job_checks.proofs.Accepted.{job_accepted, made as held_made}

-- the lists after a job was read
pub filled : (bytes : List ℕ) (l : Lent) → read_check bytes l ≡ accepted
    → job_lists bytes l
    ≡ lent (job_parents bytes ++ drop (job_arcs bytes) l.parents) (job_costs bytes ++ drop (job_arcs bytes) l.costs)
    (job_caps One bytes ++ drop (job_members bytes) l.caps)
    (job_proposals One bytes ++ drop (job_members bytes) l.proposals)
unfolding job_lists
filled bytes l e = rw e

usable : (bytes : List ℕ) (l : Lent) → read_check bytes l ≡ accepted → Usable (job_value bytes) (job_lists bytes l)
unfolding read_check marks_of
usable bytes l e =
    let ok = job_accepted One bytes (second_accepted (room_in l) (job_check One bytes) e) in
    let m = job_arcs bytes in
    let n = job_members bytes in
    let ps = entries_front (parent_at bytes (arc_offset bytes)) m (drop m l.parents) in
    let cs = entries_front (cost_at bytes (arc_offset bytes)) m (drop m l.costs) in
    let ks = entries_front (cap_at One bytes (member_offset bytes)) n (drop n l.caps) in
    let ss = entries_front (proposal_at One bytes (member_offset bytes)) n (drop n l.proposals) in
    rw (filled bytes l e)
    (record {
      tree = rw (ps, cs) ok.tree;
      members = rw ps (sym ok.rows);
      caps = rw ks (rw (← ok.rows) at ok.caps);
      proposals = rw ss (rw (← ok.rows) at ok.proposals);
    })

pub read_usable : ReadUsable
unfolding job_answer
read_usable bytes l v e =
    let read = answered (read_check bytes l) (job_value bytes) v e in
    rw read.1 (usable bytes l read.0)

-- a job that was read is made of its contents
pub made : (bytes : List ℕ) → Bytes bytes → job_check One bytes ≡ accepted → plain_job (job_contents One bytes) ≡ bytes
made bytes b e = ap (job_bytes One) (sym (held_plain bytes e)) ∙ held_made One bytes b e

pub determined : Determined
determined a b as_bytes bs_bytes ea eb same = sym (made a as_bytes ea) ∙ ap plain_job same ∙ made b bs_bytes eb
