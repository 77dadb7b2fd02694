-- The parts of local lists that hold a job's values, and what the writing of them in the other version asks for.
use Prim.Native.Nat.{ℕ, ◌+◌, ◌*◌, ◌-◌, ◌≤◌}
use mathlib.Core.Path.{◌≡◌, sym, ap, ◌∙◌}
use mathlib.Core.List.{List, ◌++◌}
use native.Mathlib.Nat.{sub-zero}
use native.Mathlib.Omega.{arith}
use lib.ListN.{length, take}
use Rattle.basics.specs.Sum.{entries}
use Rattle.basics.proofs.Lists.{entries_part}
use Rattle.answer_forms.specs.Answer.{accepted}
use Rattle.job_bytes.specs.Versions.{member_width}
use Rattle.job_bytes.specs.JobBytes.{filled_with}
use Rattle.job_bytes.specs.Format.{arc_offset, job_arcs, job_members, job_contents}
use Rattle.job_bytes.specs.declared.version.Version.{Version}
use Rattle.job_bytes.proofs.Parts.{job_length}
use Rattle.job_checks.specs.JobCheck.{job_check}
use Rattle.job2.specs.Converter.{other, fillers_in, in_version}
use Rattle.job2.specs.Inner.{Ready}
use Rattle.job2.proofs.Readable.{readable}

-- the part of a list that starts with values read from a job
pub values_part : {A : Type 0} (f : ℕ → A) (n : ℕ) (rest : List A) {l : List A} {m : ℕ} → m ≡ n
    → l ≡ entries n f ++ rest → take (m - 0) l ≡ entries n f
values_part f n rest {l} e is = rw e (entries_part f n rest is)

pub note_part : (bytes : List ℕ) {at : ℕ} → at ≡ arc_offset bytes → take (at - 0) bytes ≡ take (arc_offset bytes) bytes
note_part bytes {at} e = ap (λ (n : ℕ). take n bytes) (sub-zero at ∙ e)

module _ (v : Version) (bytes : List ℕ) (e : job_check (other v) bytes ≡ accepted) where
  pub ready : (out : List ℕ) → length (in_version v bytes) ≤ length out
      → Ready v (job_contents (other v) bytes) (length out)
  unfolding in_version
  ready out h =
      let r = readable (other v) bytes e in
      let c = job_contents (other v) bytes in
      record {
        tree = r.tree;
        few = omega (arith, r.arcs, r.room.for_parents);
        costed = r.costed;
        proposed = r.proposed;
        fits = omega (arith, h, job_length v (filled_with (fillers_in v c.parents) c));
      }

  -- the new job's length, by the old one's trailer
  pub length_is : {n : ℕ} → n ≡ arc_offset bytes + 8 * job_arcs bytes + member_width v * job_members bytes + 16
      → n ≡ length (in_version v bytes)
  unfolding in_version
  length_is is =
      let r = readable (other v) bytes e in
      let c = job_contents (other v) bytes in
      is ∙ sym (job_length v (filled_with (fillers_in v c.parents) c) ∙ rw (r.noted, r.arcs, r.members))
