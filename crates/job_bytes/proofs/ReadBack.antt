-- A job made of contents that fit the format's widths holds them.
use Prim.Native.Nat.{ℕ, ◌+◌, ◌*◌, ◌-◌, ◌^◌, ◌<◌}
use mathlib.Core.Path.{◌≡◌, refl, sym, ap, ◌∙◌}
use mathlib.Core.List.{List, ◌++◌}
use native.Mathlib.Omega.{arith}
use lib.ListN.{length, get_or, take, length-append}
use lib.IntN.{pos, nat_abs}
use Rattle.basics.specs.Sum.{entries}
use Rattle.basics.proofs.Lists.{entries_are}
use Rattle.numbers.specs.Signed.{signed64}
use Rattle.job_bytes.specs.Numbers.{little_endian}
use Rattle.job_bytes.specs.Versions.{version_number, floor_width, member_width}
use Rattle.job_bytes.specs.declared.version.Version.{Version}
use Rattle.job_bytes.specs.declared.version.Version.TheVariants.{One, Two}
use Rattle.job_bytes.specs.Inner.{Matched}
use Rattle.job_bytes.specs.JobBytes.{Held, arc_row, member_row, trailer, arc_rows, member_rows, job_bytes}
use Rattle.job_bytes.specs.Format.{trailer_at, arc_offset, member_offset, job_arcs, job_members, version}
use Rattle.job_bytes.specs.Format.{closing0, closing1, column, job_held}
use Rattle.job_bytes.specs.Format.{parent_at, filler_at, cost_at, cap_at, proposal_at, floor_at}
use Rattle.job_bytes.proofs.Standing.{Stands, all_stands, stands_first, stands_second, stands_row, stands_at}
use Rattle.job_bytes.proofs.Standing.{front_is}
use Rattle.job_bytes.proofs.Parts.{arc_row_length, member_row_length}
use Rattle.job_bytes.proofs.Parts.{arc_rows_length, member_rows_length, job_length}
use Rattle.job_bytes.proofs.PartsRead.{parent_read, filler_read, cost_read, cap_read, proposal_read, floor_read}
use Rattle.job_bytes.proofs.PartsRead.{arc_offset_read, member_offset_read, arcs_read, members_read}
use Rattle.job_bytes.proofs.PartsRead.{version_read, closing0_read, closing1_read}

-- every number fits its width in a version; a floor of version 1 is 0
pub record Fitting (v : Version) (c : Held) : Type 0 where
  pub matched : Matched c.parents c.fillers c.costs c.caps c.proposals
  pub floored : length c.floors ≡ length c.caps
  pub offsets : length c.note + 8 * length c.parents < 256 ^ 4
  pub arcs : length c.parents < 256 ^ 2
  pub members : length c.caps < 256 ^ 2
  pub parent : (i : ℕ) → get_or c.parents i 0 < 256 ^ 2
  pub filler : (i : ℕ) → get_or c.fillers i 0 < 256 ^ 2
  pub cost : (i : ℕ) → get_or c.costs i 0 < 256 ^ 4
  pub cap : (j : ℕ) → get_or c.caps j 0 < 256 ^ 8
  pub proposal : (j : ℕ) → nat_abs (get_or c.proposals j (pos 0)) < 2 ^ 63
  pub floor : (j : ℕ) → get_or c.floors j 0 < 256 ^ floor_width v

-- the number of a version
number_small : (v : Version) → version_number v < 256 ^ 2
unfolding version_number
number_small One = omega arith
number_small Two = omega arith

module _ (v : Version) (c : Held) (fits : Fitting v c) where
  abbrev bytes : List ℕ
  bytes = job_bytes v c

  abbrev note : ℕ
  note = length c.note

  abbrev arcs : ℕ
  arcs = length c.parents

  abbrev members : ℕ
  members = length c.caps

  abbrev end : List ℕ
  end = trailer note (note + 8 * arcs) arcs members (version_number v)

  abbrev rows_of_arcs : List ℕ
  rows_of_arcs = arc_rows c.parents c.fillers c.costs

  abbrev rows_of_members : List ℕ
  rows_of_members = member_rows v c.caps c.proposals c.floors

  -- the parts, as they stand one after the other
  abbrev with_arcs : List ℕ
  with_arcs = c.note ++ rows_of_arcs

  abbrev with_members : List ℕ
  with_members = with_arcs ++ rows_of_members

  to_members_length : length with_members ≡ note + 8 * arcs + member_width v * members
  to_members_length =
      omega (
        arith,
        length-append c.note rows_of_arcs,
        length-append with_arcs rows_of_members,
        arc_rows_length c.parents c.fillers c.costs,
        member_rows_length v c.caps c.proposals c.floors,
      )

  to_arcs_length : length with_arcs ≡ note + 8 * arcs
  to_arcs_length = omega (arith, length-append c.note rows_of_arcs, arc_rows_length c.parents c.fillers c.costs)

  to_members : Stands bytes 0 (note + 8 * arcs + member_width v * members) with_members
  unfolding job_bytes
  to_members = stands_first with_members end to_members_length all_stands

  to_arcs : Stands bytes 0 (note + 8 * arcs) with_arcs
  to_arcs = stands_first with_arcs rows_of_members to_arcs_length to_members

  arcs_stand : Stands bytes note (8 * arcs) rows_of_arcs
  arcs_stand =
      let whole : note + 8 * arcs - note ≡ 8 * arcs = omega arith in
      let place : 0 + note ≡ note = omega arith in
      stands_at place (rw whole at (stands_second c.note rows_of_arcs refl to_arcs))

  members_stand : Stands bytes (note + 8 * arcs) (member_width v * members) rows_of_members
  members_stand =
      let rows = member_width v * members in
      let whole : note + 8 * arcs + rows - (note + 8 * arcs) ≡ rows = omega arith in
      let place : 0 + (note + 8 * arcs) ≡ note + 8 * arcs = omega arith in
      stands_at place (rw whole at (stands_second with_arcs rows_of_members to_arcs_length to_members))

  end_stands : Stands bytes (trailer_at bytes) 16 end
  unfolding job_bytes
  end_stands =
      let before = note + 8 * arcs + member_width v * members in
      let whole : length bytes - before ≡ 16 = omega (arith, job_length v c) in
      let place : 0 + before ≡ trailer_at bytes = omega (arith, job_length v c) in
      stands_at place (rw whole at (stands_second with_members end to_members_length all_stands))

  -- the trailer
  pub arc_offset_is : arc_offset bytes ≡ note
  unfolding arc_offset
  arc_offset_is =
      arc_offset_read note (note + 8 * arcs) arcs members (version_number v) end_stands (omega (arith, fits.offsets))

  pub member_offset_is : member_offset bytes ≡ note + 8 * arcs
  unfolding member_offset
  member_offset_is = member_offset_read note (note + 8 * arcs) arcs members (version_number v) end_stands fits.offsets

  pub arcs_is : job_arcs bytes ≡ arcs
  unfolding job_arcs
  arcs_is = arcs_read note (note + 8 * arcs) arcs members (version_number v) end_stands fits.arcs

  pub members_is : job_members bytes ≡ members
  unfolding job_members
  members_is = members_read note (note + 8 * arcs) arcs members (version_number v) end_stands fits.members

  pub version_is : version bytes ≡ version_number v
  unfolding version
  version_is = version_read note (note + 8 * arcs) arcs members (version_number v) end_stands (number_small v)

  pub closing0_is : closing0 bytes ≡ 84
  closing0_is = closing0_read note (note + 8 * arcs) arcs members (version_number v) end_stands

  pub closing1_is : closing1 bytes ≡ 74
  closing1_is = closing1_read note (note + 8 * arcs) arcs members (version_number v) end_stands

  -- the rows
  arc_row_lem : (i : ℕ) → i < arcs
      → Stands bytes (note + 8 * i) 8 (arc_row (get_or c.parents i 0) (get_or c.fillers i 0) (get_or c.costs i 0))
  arc_row_lem = stands_row 8 _ (λ i. arc_row_length _ _ _) arcs arcs_stand

  member_row_lem : (j : ℕ) → j < members
      → Stands bytes (note + 8 * arcs + member_width v * j) (member_width v)
      (member_row v (get_or c.caps j 0) (get_or c.proposals j (pos 0)) (get_or c.floors j 0))
  member_row_lem = stands_row (member_width v) _ (λ j. member_row_length v _ _ _) members members_stand

  note_is : take note bytes ≡ c.note
  note_is = front_is (omega (arith, job_length v c)) (stands_first c.note rows_of_arcs refl to_arcs)

  -- a number some bytes behind the start of its row
  in_column : (width at k stride i : ℕ) {x : ℕ} → little_endian bytes (at + stride * i + k) width ≡ x
      → x ≡ column bytes width (at + k) stride i
  in_column width at k stride i e =
      let place : at + k + stride * i ≡ at + stride * i + k = omega arith in rw place (sym e)

  parents_are : entries arcs (parent_at bytes note) ≡ c.parents
  parents_are =
      sym (entries_are _ 0 arcs c.parents refl (λ i h. sym (parent_read _ _ _ (arc_row_lem i h) (fits.parent i))))

  pub filler_is : (i : ℕ) → i < arcs → filler_at bytes note i ≡ get_or c.fillers i 0
  filler_is i h = sym (in_column 2 note 2 8 i (filler_read _ _ _ (arc_row_lem i h) (fits.filler i)))

  fillers_are : entries arcs (filler_at bytes note) ≡ c.fillers
  fillers_are = sym (entries_are _ 0 arcs c.fillers fits.matched.filled (λ i h. sym (filler_is i h)))

  costs_are : entries arcs (cost_at bytes note) ≡ c.costs
  costs_are =
      sym (entries_are _ 0 arcs c.costs fits.matched.costed
      (λ i h. in_column 4 note 4 8 i (cost_read _ _ _ (arc_row_lem i h) (fits.cost i))))

  caps_are : entries members (cap_at v bytes (note + 8 * arcs)) ≡ c.caps
  caps_are =
      sym (entries_are _ 0 members c.caps refl (λ j h. sym (cap_read v _ _ _ (member_row_lem j h) (fits.cap j))))

  proposals_are : entries members (proposal_at v bytes (note + 8 * arcs)) ≡ c.proposals
  proposals_are =
      sym (entries_are _ (pos 0) members c.proposals fits.matched.proposed
      (λ j h. sym (proposal_read v _ _ _ (member_row_lem j h) (fits.proposal j))
      ∙ ap signed64 (in_column 8 (note + 8 * arcs) 8 (member_width v) j refl)))

  floors_are : entries members (floor_at v bytes (note + 8 * arcs)) ≡ c.floors
  floors_are =
      sym (entries_are _ 0 members c.floors fits.floored
      (λ j h. in_column (floor_width v) (note + 8 * arcs) 16 (member_width v) j
      (floor_read v _ _ _ (member_row_lem j h) (fits.floor j))))

  pub held_are : job_held v bytes ≡ c
  held_are =
      rw (arc_offset_is, member_offset_is, arcs_is, members_is)
      (rw (note_is, parents_are, fillers_are, costs_are, caps_are, proposals_are, floors_are))
