-- The form of a job's bytes in a version: 11 to 14 and 16, with the specification's numbers and places (§7).
use Rattle.std.specs.Prelude.{ℕ, zero, suc, ◌+◌, ◌*◌, ◌||◌, not, List, length, eqb, ltb}
use Rattle.answer_forms.specs.Answer.{Check, accepted, fault, ◌then◌}
use Rattle.job_bytes.specs.Versions.{version_number, member_width}
use Rattle.job_bytes.specs.Format.{arc_offset, member_offset, job_arcs, job_members, version, closing0, closing1, filler_at}
use Rattle.job_bytes.specs.declared.version.Version.{Version}
use Rattle.job_bytes.specs.declared.version.Version.TheVariants.{One, Two}

-- the fewest and the most bytes, and the longest note
abbrev pub fewest_bytes : ℕ
fewest_bytes = 16

unfoldable pub most_bytes_of : Version → ℕ
most_bytes_of One = 24823
most_bytes_of Two = 33007

abbrev pub longest_note : ℕ
longest_note = 255

-- 11
abbrev pub size_check : Version → ℕ → Check
size_check v size = fault (ltb size fewest_bytes || ltb (most_bytes_of v) size) 11 0

-- 12: the version, and the bytes 54 and 4A hexadecimal
abbrev pub signature_check : Version → List ℕ → Check
signature_check v bytes =
    fault
    (not (eqb (version bytes) (version_number v)) || (not (eqb (closing0 bytes) 84) || not (eqb (closing1 bytes) 74)))
    12 0

-- 13: the arc rows start after the note, the member rows where those end, and the trailer where these end
abbrev pub layout_check : Version → List ℕ → Check
layout_check v bytes =
    fault
    (ltb longest_note (arc_offset bytes)
    || (not (eqb (member_offset bytes) (arc_offset bytes + 8 * job_arcs bytes))
    || not (eqb (member_offset bytes + member_width v * job_members bytes + 16) (length bytes))))
    13 0

-- 11 to 13
unfoldable pub form_check : Version → List ℕ → Check
form_check v bytes = size_check v (length bytes) then signature_check v bytes then layout_check v bytes

-- 14 in version 1 where the filler is not 0, 16 in version 2 where the mark is neither 0 nor 1
unfoldable pub filler_check : Version → (filler arc : ℕ) → Check
filler_check One filler arc = fault (not (eqb filler 0)) 14 arc
filler_check Two mark arc = fault (ltb 1 mark) 16 arc

-- the same at the first arc where it stands, from row i on with this many rows left
unfoldable pub fillers_from : Version → List ℕ → (offset i rows : ℕ) → Check
fillers_from v bytes offset i zero = accepted
fillers_from v bytes offset i (suc rows) =
    filler_check v (filler_at bytes offset i) (i + 1) then fillers_from v bytes offset (i + 1) rows

abbrev pub fillers_check : Version → List ℕ → Check
fillers_check v bytes = fillers_from v bytes (arc_offset bytes) 0 (job_arcs bytes)
