-- What differs between the two versions of a job's bytes.
use Rattle.std.specs.Prelude.{ℕ, ◌+◌}
use Rattle.job_bytes.specs.declared.version.Version.{Version}
use Rattle.job_bytes.specs.declared.version.Version.TheVariants.{One, Two}

-- the number in the trailer
unfoldable pub version_number : Version → ℕ
version_number One = 1
version_number Two = 2

-- the bytes of a floor in a member row, which in version 1 has none
unfoldable pub floor_width : Version → ℕ
floor_width One = 0
floor_width Two = 8

-- the bytes of a member row: a cap, a proposal and a floor
abbrev pub member_width : Version → ℕ
member_width v = 16 + floor_width v
