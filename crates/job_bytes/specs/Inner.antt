-- What the functions of this crate hand on, beside the format.
use Rattle.std.specs.Prelude.{ℕ, ◌+◌, ◌*◌, ◌^◌, ◌<◌, ◌≤◌, ◌≡◌, List, length, ℤ}
use Rattle.job_bytes.specs.Format.{arc_offset, member_offset, job_arcs, job_members}

-- what the trailer says, within the widths of its fields
pub record TrailerOf (bytes : List ℕ) (offset_of_arcs offset_of_members arcs members : ℕ) : Type 0 where
  pub arc_offset_is : offset_of_arcs ≡ arc_offset bytes
  pub member_offset_is : offset_of_members ≡ member_offset bytes
  pub arcs_is : arcs ≡ job_arcs bytes
  pub members_is : members ≡ job_members bytes
  pub offsets_small : offset_of_arcs + offset_of_members < 2 ^ 33
  pub counts_small : arcs + members < 2 ^ 17

-- the column stands within the bytes, on each of its rows
abbrev pub Within : List ℕ → (width at stride rows : ℕ) → Type 0
Within bytes width at stride rows = (i : ℕ) → i < rows → at + stride * i + width ≤ length bytes

-- one filler and one cost an arc, one proposal a member
pub record Matched (parents fillers costs caps : List ℕ) (proposals : List ℤ) : Type 0 where
  pub filled : length fillers ≡ length parents
  pub costed : length costs ≡ length parents
  pub proposed : length proposals ≡ length caps
