-- The bytes of a job: its trailer, its rows, and the values that they hold.
use Rattle.std.specs.Prelude.{ℕ, ◌+◌, ◌*◌, ◌-◌, List, length, take, ℤ}
use Rattle.basics.specs.Sum.{entries}
use Rattle.numbers.specs.Signed.{signed64}
use Rattle.job_bytes.specs.Numbers.{byte_at, little_endian}
use Rattle.job_bytes.specs.Versions.{floor_width, member_width}
use Rattle.job_bytes.specs.JobBytes.{Held, held, Contents, contents}
use Rattle.job_bytes.specs.declared.version.Version.{Version}

-- the trailer: the last 16 bytes
abbrev pub trailer_at : List ℕ → ℕ
trailer_at bytes = length bytes - 16

-- the offset of the arc rows, and so the length of the note
unfoldable pub arc_offset : List ℕ → ℕ
arc_offset bytes = little_endian bytes (trailer_at bytes) 4

-- the offset of the member rows
unfoldable pub member_offset : List ℕ → ℕ
member_offset bytes = little_endian bytes (trailer_at bytes + 4) 4

-- the number of arcs, and of members
unfoldable pub job_arcs : List ℕ → ℕ
job_arcs bytes = little_endian bytes (trailer_at bytes + 8) 2

unfoldable pub job_members : List ℕ → ℕ
job_members bytes = little_endian bytes (trailer_at bytes + 10) 2

unfoldable pub version : List ℕ → ℕ
version bytes = little_endian bytes (trailer_at bytes + 12) 2

-- the two closing bytes
abbrev pub closing0 : List ℕ → ℕ
closing0 bytes = byte_at bytes (trailer_at bytes + 14)

abbrev pub closing1 : List ℕ → ℕ
closing1 bytes = byte_at bytes (trailer_at bytes + 15)

-- a column: the number of `width` bytes that row i has, where rows are `stride` bytes apart and row 0 has it at a place
abbrev pub column : List ℕ → (width at stride i : ℕ) → ℕ
column bytes width at stride i = little_endian bytes (at + stride * i) width

-- row i of the arc rows at an offset, 8 bytes: parent 16 bits, filler 16 bits, cost 32 bits
abbrev pub parent_at : List ℕ → ℕ → ℕ → ℕ
parent_at bytes offset = column bytes 2 offset 8

abbrev pub filler_at : List ℕ → ℕ → ℕ → ℕ
filler_at bytes offset = column bytes 2 (offset + 2) 8

abbrev pub cost_at : List ℕ → ℕ → ℕ → ℕ
cost_at bytes offset = column bytes 4 (offset + 4) 8

-- row j of the member rows at an offset, 16 bytes: cap 64 bits, proposal 64 bits; 24 bytes in version 2: floor 64 bits.
-- The floor of version 1 has no bytes, and is 0
abbrev pub cap_at : Version → List ℕ → ℕ → ℕ → ℕ
cap_at v bytes offset = column bytes 8 offset (member_width v)

abbrev pub proposal_at : Version → List ℕ → ℕ → ℕ → ℤ
proposal_at v bytes offset j = signed64 (column bytes 8 (offset + 8) (member_width v) j)

abbrev pub floor_at : Version → List ℕ → ℕ → ℕ → ℕ
floor_at v bytes offset = column bytes (floor_width v) (offset + 16) (member_width v)

-- the note, and the values that the rows hold
abbrev pub job_note : List ℕ → List ℕ
job_note bytes = take (arc_offset bytes) bytes

abbrev pub job_parents : List ℕ → List ℕ
job_parents bytes = entries (job_arcs bytes) (parent_at bytes (arc_offset bytes))

abbrev pub job_fillers : List ℕ → List ℕ
job_fillers bytes = entries (job_arcs bytes) (filler_at bytes (arc_offset bytes))

abbrev pub job_costs : List ℕ → List ℕ
job_costs bytes = entries (job_arcs bytes) (cost_at bytes (arc_offset bytes))

abbrev pub job_caps : Version → List ℕ → List ℕ
job_caps v bytes = entries (job_members bytes) (cap_at v bytes (member_offset bytes))

abbrev pub job_proposals : Version → List ℕ → List ℤ
job_proposals v bytes = entries (job_members bytes) (proposal_at v bytes (member_offset bytes))

abbrev pub job_floors : Version → List ℕ → List ℕ
job_floors v bytes = entries (job_members bytes) (floor_at v bytes (member_offset bytes))

-- all that a job holds, and what jobs of both versions do
abbrev pub job_held : Version → List ℕ → Held
job_held v bytes =
    held (job_note bytes) (job_parents bytes) (job_fillers bytes) (job_costs bytes) (job_caps v bytes)
    (job_proposals v bytes) (job_floors v bytes)

abbrev pub job_contents : Version → List ℕ → Contents
job_contents v bytes =
    contents (job_note bytes) (job_parents bytes) (job_costs bytes) (job_caps v bytes) (job_proposals v bytes)
