-- What the checks of a job's form ask of one another.
use Rattle.std.specs.Prelude.{ℕ, ◌+◌, ◌*◌, ◌≤◌, ◌≡◌, List, length}
use Rattle.job_bytes.specs.Versions.{member_width}
use Rattle.job_bytes.specs.declared.version.Version.{Version}
use Rattle.job_bytes.specs.Format.{arc_offset, member_offset, job_arcs, job_members}
use Rattle.job_form.specs.Form.{fewest_bytes, most_bytes_of, longest_note}

-- what 11 and 13 ask for: note, rows and trailer meet and end exactly
pub record Layout (v : Version) (bytes : List ℕ) : Type 0 where
  pub long : fewest_bytes ≤ length bytes
  pub short : length bytes ≤ most_bytes_of v
  pub note_short : arc_offset bytes ≤ longest_note
  pub arcs_end : member_offset bytes ≡ arc_offset bytes + 8 * job_arcs bytes
  pub members_end : member_offset bytes + member_width v * job_members bytes + 16 ≡ length bytes
