-- Version 1: what an accepted job holds, and which values make one.
use Prim.Native.Nat.{ℕ, ◌+◌, ◌≤◌}
use mathlib.Core.Path.{◌≡◌}
use mathlib.Core.List.{List}
use lib.ListN.{length, get_or, replicate, length-replicate}
use Rattle.basics.proofs.Lists.{entries_length, entries_at}
use Rattle.game.specs.Network.{member_count}
use Rattle.game.specs.Tree.{network, dead_end_tree}
use Rattle.answer_forms.specs.Answer.{accepted}
use Rattle.answers.specs.Checks.{tree_check, proposal_check}
use Rattle.answers.specs.Level.{caps_check}
use Rattle.job_bytes.specs.Numbers.{little_endian}
use Rattle.job_bytes.specs.Versions.{floor_width}
use Rattle.job_bytes.specs.JobBytes.{Contents, plain}
use Rattle.job_bytes.specs.Format.{arc_offset, member_offset, job_arcs, job_members, parent_at, filler_at, cap_at, floor_at}
use Rattle.job_bytes.specs.Format.{job_parents, job_fillers, job_caps, job_floors, job_held, job_contents}
use Rattle.job_bytes.specs.declared.version.Version.TheVariants.{One}
use Rattle.job_form.specs.Form.{longest_note, filler_check, fillers_check}
use Rattle.job_form.proofs.FillersAccepted.{filler_accepted, filler_zero}
use Rattle.job_checks.specs.JobCheck.{marks_of, job_check}
use Rattle.job_checks.proofs.Zeros.{zero_at, zeros_are}
use Rattle.job_checks.proofs.Accepted.{job_accepted}
use Rattle.job_checks.proofs.Made.{Fillable}

module _ (bytes : List ℕ) where
  fillers_zero : fillers_check One bytes ≡ accepted → job_fillers bytes ≡ replicate (length (job_parents bytes)) 0
  fillers_zero e =
      rw (entries_length (parent_at bytes (arc_offset bytes)) (job_arcs bytes))
      (zeros_are (job_fillers bytes) (job_arcs bytes)
      (entries_length (filler_at bytes (arc_offset bytes)) (job_arcs bytes))
      (λ i h. filler_zero (get_or (job_fillers bytes) i 0) (i + 1) (filler_accepted One bytes e i h)))

  floors_zero : job_floors One bytes ≡ replicate (length (job_caps One bytes)) 0
  unfolding floor_width little_endian
  floors_zero =
      rw (entries_length (cap_at One bytes (member_offset bytes)) (job_members bytes))
      (zeros_are (job_floors One bytes) (job_members bytes)
      (entries_length (floor_at One bytes (member_offset bytes)) (job_members bytes))
      (λ j h. entries_at (floor_at One bytes (member_offset bytes)) 0 (job_members bytes) j h))

  pub held_plain : job_check One bytes ≡ accepted → job_held One bytes ≡ plain (job_contents One bytes)
  held_plain e = rw (fillers_zero (job_accepted One bytes e).fillers, floors_zero)

module _ (c : Contents) where
  filler_ok : (i : ℕ) → filler_check One (get_or (replicate (length c.parents) 0) i 0) (i + 1) ≡ accepted
  unfolding filler_check
  filler_ok i = rw (zero_at (length c.parents) i)

  pub plain_fillable : let t = dead_end_tree c.parents c.costs in
      tree_check t ≡ accepted
      → caps_check (member_count (network t)) c.caps ≡ accepted
      → proposal_check (member_count (network t)) c.proposals ≡ accepted
      → length c.note ≤ longest_note
      → Fillable One (replicate (length c.parents) 0) c
  unfolding marks_of
  plain_fillable tree caps proposals note =
      record {
        filled = length-replicate (length c.parents) 0;
        filler = filler_ok;
        tree = tree;
        caps = caps;
        proposals = proposals;
        note = note;
      }
