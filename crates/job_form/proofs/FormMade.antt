-- A job made of contents has an accepted form.
use Prim.Native.Nat.{ℕ, zero, suc, ◌+◌, ◌*◌, ◌<◌, ◌≤◌}
use mathlib.Core.Path.{◌≡◌, refl}
use mathlib.Core.List.{List}
use native.Mathlib.Nat.{mul-le-mul_left}
use native.Mathlib.Omega.{arith}
use borrow.Author.Tests.{eq-eqb, le-ltb}
use lib.ListN.{length, get_or}
use Rattle.limits.specs.Limits.{most_arcs}
use Rattle.answer_forms.specs.Answer.{accepted}
use Rattle.job_bytes.specs.Versions.{floor_width, member_width}
use Rattle.job_bytes.specs.declared.version.Version.{Version}
use Rattle.job_bytes.specs.declared.version.Version.TheVariants.{One, Two}
use Rattle.job_bytes.specs.JobBytes.{Held, job_bytes}
use Rattle.job_bytes.specs.Format.{filler_at}
use Rattle.job_bytes.proofs.Parts.{job_length}
use Rattle.job_bytes.proofs.ReadBack.{Fitting, arc_offset_is, member_offset_is, arcs_is, members_is, version_is}
use Rattle.job_bytes.proofs.ReadBack.{closing0_is, closing1_is, filler_is}
use Rattle.job_form.specs.Form.{longest_note, fewest_bytes, most_bytes_of, size_check, signature_check, layout_check}
use Rattle.job_form.specs.Form.{form_check, filler_check, fillers_from, fillers_check}

-- the longest job has the longest note and the most rows
most_bytes : (v : Version) → most_bytes_of v ≡ longest_note + 8 * most_arcs + member_width v * most_arcs + 16
unfolding most_bytes_of floor_width
most_bytes One = refl
most_bytes Two = refl

fillers_accepted : (v : Version) (bytes : List ℕ) (offset rows i : ℕ)
    → ((j : ℕ) → i ≤ j → j < i + rows → filler_check v (filler_at bytes offset j) (j + 1) ≡ accepted)
    → fillers_from v bytes offset i rows ≡ accepted
unfolding fillers_from
fillers_accepted v bytes offset zero i h = refl
fillers_accepted v bytes offset (suc rows) i h =
    rw (h i (omega arith) (omega arith))
    (fillers_accepted v bytes offset rows (i + 1) (λ j l m. h j (omega arith) (omega arith)))

module _ (v : Version) (c : Held) (fits : Fitting v c) (arcs : length c.parents ≤ most_arcs)
    (members : length c.caps ≤ most_arcs) (short : length c.note ≤ longest_note) where
  abbrev bytes : List ℕ
  bytes = job_bytes v c

  size_accepted : size_check v (length bytes) ≡ accepted
  size_accepted =
      let most = mul-le-mul_left (member_width v) members in
      rw (
        le-ltb (length bytes) fewest_bytes (omega (arith, job_length v c)),
        le-ltb (most_bytes_of v) (length bytes) (omega (arith, job_length v c, most_bytes v, most)),
      )

  signature_accepted : signature_check v bytes ≡ accepted
  signature_accepted = rw (version_is v c fits, closing0_is v c fits, closing1_is v c fits, eq-eqb _ _ refl)

  layout_accepted : layout_check v bytes ≡ accepted
  layout_accepted =
      let note = length c.note in
      let end : note + 8 * length c.parents + member_width v * length c.caps + 16 ≡ length bytes =
      omega (arith, job_length v c) in
      rw (
        arc_offset_is v c fits,
        member_offset_is v c fits,
        arcs_is v c fits,
        members_is v c fits,
        le-ltb longest_note note short,
        eq-eqb (note + 8 * length c.parents) (note + 8 * length c.parents) refl,
        eq-eqb (note + 8 * length c.parents + member_width v * length c.caps + 16) (length bytes) end,
      )

  pub form_made : form_check v bytes ≡ accepted
  unfolding form_check
  form_made = rw (size_accepted, signature_accepted, layout_accepted)

  pub fillers_made : ((i : ℕ) → filler_check v (get_or c.fillers i 0) (i + 1) ≡ accepted)
      → fillers_check v bytes ≡ accepted
  fillers_made ok =
      rw (arc_offset_is v c fits, arcs_is v c fits)
      (fillers_accepted v bytes (length c.note) (length c.parents) 0
      (λ j l m. rw (filler_is v c fits j (omega arith)) (ok j)))
