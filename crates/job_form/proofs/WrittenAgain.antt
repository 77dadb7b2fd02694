-- A job of accepted form is made of what it holds.
use Prim.Native.Nat.{ℕ, ◌+◌, ◌*◌, ◌<◌}
use mathlib.Core.Path.{◌≡◌, ap, ◌∙◌}
use mathlib.Core.List.{List}
use native.Mathlib.Omega.{arith}
use lib.ListN.{length, get_or}
use lib.IntN.{pos}
use Rattle.basics.proofs.Lists.{entries_length, entries_at}
use Rattle.numbers.specs.Signed.{signed64}
use Rattle.answer_forms.specs.Answer.{accepted}
use Rattle.job_bytes.specs.Numbers.{Bytes, little_endian}
use Rattle.job_bytes.specs.Versions.{version_number, floor_width, member_width}
use Rattle.job_bytes.specs.declared.version.Version.{Version}
use Rattle.job_bytes.specs.JobBytes.{arc_row, member_row, arc_rows, member_rows, trailer, job_bytes}
use Rattle.job_bytes.specs.Format.{trailer_at, arc_offset, member_offset, job_arcs, job_members, version, column}
use Rattle.job_bytes.specs.Format.{filler_at, parent_at, cost_at, cap_at, proposal_at, floor_at}
use Rattle.job_bytes.specs.Format.{job_note, job_parents, job_fillers, job_costs, job_caps, job_proposals, job_floors}
use Rattle.job_bytes.specs.Format.{job_held}
use Rattle.job_bytes.proofs.Standing.{Stands, front_stands, stands_all, stands_at, stands_both, stands_rows}
use Rattle.job_bytes.proofs.Parts.{arc_row_stands, member_row_stands, trailer_stands}
use Rattle.job_form.specs.Inner.{Layout}
use Rattle.job_form.specs.Form.{form_check}
use Rattle.job_form.proofs.FormAccepted.{form_signature, form_layout}

module _ (v : Version) (bytes : List ℕ) (b : Bytes bytes) (form : form_check v bytes ≡ accepted) where
  layout : Layout v bytes
  layout = form_layout v bytes form

  -- a column's number by its place in the row
  behind : (width at k stride i : ℕ)
      → column bytes width (at + k) stride i ≡ little_endian bytes (at + stride * i + k) width
  behind width at k stride i =
      let place : at + k + stride * i ≡ at + stride * i + k = omega arith in
      ap (λ (p : ℕ). little_endian bytes p width) place

  note_stands : Stands bytes 0 (arc_offset bytes) (job_note bytes)
  note_stands = front_stands (arc_offset bytes) (omega (arith, layout.arcs_end, layout.members_end))

  arcs : length (job_parents bytes) ≡ job_arcs bytes
  arcs = entries_length (parent_at bytes (arc_offset bytes)) (job_arcs bytes)

  members : length (job_caps v bytes) ≡ job_members bytes
  members = entries_length (cap_at v bytes (member_offset bytes)) (job_members bytes)

  arc_row_lem : (i : ℕ) → i < job_arcs bytes
      → Stands bytes (arc_offset bytes + 8 * i) 8
      (arc_row (get_or (job_parents bytes) i 0) (get_or (job_fillers bytes) i 0) (get_or (job_costs bytes) i 0))
  arc_row_lem i h =
      let o = arc_offset bytes in
      rw (
        entries_at (parent_at bytes o) 0 (job_arcs bytes) i h,
        entries_at (filler_at bytes o) 0 (job_arcs bytes) i h ∙ behind 2 o 2 8 i,
        entries_at (cost_at bytes o) 0 (job_arcs bytes) i h ∙ behind 4 o 4 8 i,
      )
      (arc_row_stands bytes b (o + 8 * i))

  arcs_stand :
      Stands bytes (arc_offset bytes) (8 * job_arcs bytes)
      (arc_rows (job_parents bytes) (job_fillers bytes) (job_costs bytes))
  arcs_stand = rw arcs (stands_rows 8 _ (job_arcs bytes) arc_row_lem)

  member_row_lem : (j : ℕ) → j < job_members bytes
      → Stands bytes (member_offset bytes + member_width v * j) (member_width v)
      (member_row v (get_or (job_caps v bytes) j 0) (get_or (job_proposals v bytes) j (pos 0)) (get_or (job_floors v bytes) j 0))
  member_row_lem j h =
      let o = member_offset bytes in
      let w = member_width v in
      rw (
        entries_at (cap_at v bytes o) 0 (job_members bytes) j h,
        entries_at (proposal_at v bytes o) (pos 0) (job_members bytes) j h ∙ ap signed64 (behind 8 o 8 w j),
        entries_at (floor_at v bytes o) 0 (job_members bytes) j h ∙ behind (floor_width v) o 16 w j,
      )
      (member_row_stands bytes b (o + w * j) v)

  members_stand :
      Stands bytes (member_offset bytes) (member_width v * job_members bytes)
      (member_rows v (job_caps v bytes) (job_proposals v bytes) (job_floors v bytes))
  members_stand = rw members (stands_rows (member_width v) _ (job_members bytes) member_row_lem)

  end_stands :
      Stands bytes (trailer_at bytes) 16
      (trailer (arc_offset bytes) (member_offset bytes) (job_arcs bytes) (job_members bytes) (version_number v))
  unfolding arc_offset member_offset job_arcs job_members version
  end_stands =
      let signature = form_signature v bytes form in
      rw signature.version_is at
      (trailer_stands bytes b (trailer_at bytes) signature.closing0_is signature.closing1_is)

  -- the trailer is that of the contents
  end_same :
      trailer (arc_offset bytes) (member_offset bytes) (job_arcs bytes) (job_members bytes) (version_number v)
      ≡ trailer (length (job_note bytes)) (length (job_note bytes) + 8 * length (job_parents bytes))
      (length (job_parents bytes)) (length (job_caps v bytes)) (version_number v)
  end_same = rw (note_stands.sized, arcs, members, layout.arcs_end)

  pub written_again : job_bytes v (job_held v bytes) ≡ bytes
  unfolding job_bytes
  written_again =
      let o = arc_offset bytes in
      let r = 8 * job_arcs bytes in
      let n = member_width v * job_members bytes in
      let to_arcs : o ≡ 0 + o = omega arith in
      let to_members : member_offset bytes ≡ 0 + (o + r) = omega (arith, layout.arcs_end) in
      let to_end : trailer_at bytes ≡ 0 + (o + r + n) = omega (arith, layout.arcs_end, layout.members_end) in
      let all : o + r + n + 16 ≡ length bytes = omega (arith, layout.arcs_end, layout.members_end) in
      let with_arcs = stands_both note_stands (stands_at to_arcs arcs_stand) in
      let with_members = stands_both with_arcs (stands_at to_members members_stand) in
      stands_all (rw all at (stands_both with_members (stands_at to_end (rw end_same at end_stands))))
