-- The rows and the trailer of a job: how long they are, and that what is read from a place on stands there.
use Prim.Native.Nat.{ℕ, zero, suc, ◌+◌, ◌*◌, ◌<◌}
use mathlib.Core.Path.{◌≡◌}
use mathlib.Core.List.{List, [], ◌∷◌, ◌++◌}
use native.Mathlib.Nat.{add-zero}
use native.Mathlib.Omega.{arith}
use lib.ListN.{length, length-append}
use lib.IntN.{ℤ}
use Rattle.numbers.specs.Signed.{signed64, bits64}
use Rattle.numbers.proofs.TwosComplement.{bits_of_signed}
use Rattle.job_bytes.specs.Numbers.{byte_at, little_endian, in_bytes, Bytes}
use Rattle.job_bytes.specs.Versions.{version_number, floor_width, member_width}
use Rattle.job_bytes.specs.declared.version.Version.{Version}
use Rattle.job_bytes.specs.JobBytes.{Held, arc_row, member_row, trailer, arc_rows, member_rows, job_bytes}
use Rattle.job_bytes.proofs.Standing.{Stands, stands_both, number_stands, number_small}
use Rattle.job_bytes.proofs.Standing.{in_bytes_length, rows_length}

-- one number more
pub longer : (s : List ℕ) (k width x : ℕ) → length s ≡ k → length (s ++ in_bytes width x) ≡ k + width
longer s k width x e = omega (arith, length-append s (in_bytes width x), in_bytes_length width x, e)

pub arc_row_length : (parent filler cost : ℕ) → length (arc_row parent filler cost) ≡ 8
unfolding arc_row
arc_row_length parent filler cost =
    longer (in_bytes 2 parent ++ in_bytes 2 filler) 4 4 cost
    (longer (in_bytes 2 parent) 2 2 filler (in_bytes_length 2 parent))

-- the cap and the proposal of a member row
abbrev pub shares : ℕ → ℤ → List ℕ
shares cap proposal = in_bytes 8 cap ++ in_bytes 8 (bits64 proposal)

pub shares_length : (cap : ℕ) (proposal : ℤ) → length (shares cap proposal) ≡ 16
shares_length cap proposal = longer (in_bytes 8 cap) 8 8 (bits64 proposal) (in_bytes_length 8 cap)

pub member_row_length : (v : Version) (cap : ℕ) (proposal : ℤ) (floor : ℕ)
    → length (member_row v cap proposal floor) ≡ member_width v
unfolding member_row
member_row_length v cap proposal floor =
    longer (shares cap proposal) 16 (floor_width v) floor (shares_length cap proposal)

-- the first two, three, four and five fields of the trailer
abbrev pub fields₂ : ℕ → ℕ → List ℕ
fields₂ offset_of_arcs offset_of_members = in_bytes 4 offset_of_arcs ++ in_bytes 4 offset_of_members

abbrev pub fields₃ : ℕ → ℕ → ℕ → List ℕ
fields₃ offset_of_arcs offset_of_members arcs = fields₂ offset_of_arcs offset_of_members ++ in_bytes 2 arcs

abbrev pub fields₄ : ℕ → ℕ → ℕ → ℕ → List ℕ
fields₄ offset_of_arcs offset_of_members arcs members =
    fields₃ offset_of_arcs offset_of_members arcs ++ in_bytes 2 members

abbrev pub fields₅ : ℕ → ℕ → ℕ → ℕ → ℕ → List ℕ
fields₅ offset_of_arcs offset_of_members arcs members version =
    fields₄ offset_of_arcs offset_of_members arcs members ++ in_bytes 2 version

pub fields₂_length : (a o : ℕ) → length (fields₂ a o) ≡ 8
fields₂_length a o = longer (in_bytes 4 a) 4 4 o (in_bytes_length 4 a)

pub fields₃_length : (a o m : ℕ) → length (fields₃ a o m) ≡ 10
fields₃_length a o m = longer (fields₂ a o) 8 2 m (fields₂_length a o)

pub fields₄_length : (a o m n : ℕ) → length (fields₄ a o m n) ≡ 12
fields₄_length a o m n = longer (fields₃ a o m) 10 2 n (fields₃_length a o m)

pub fields₅_length : (a o m n v : ℕ) → length (fields₅ a o m n v) ≡ 14
fields₅_length a o m n v = longer (fields₄ a o m n) 12 2 v (fields₄_length a o m n)

trailer_length : (a o m n v : ℕ) → length (trailer a o m n v) ≡ 16
unfolding trailer
trailer_length a o m n v =
    omega (arith, length-append {A = ℕ} (fields₅ a o m n v) (84 ∷ 74 ∷ []), fields₅_length a o m n v)

-- the whole job
pub arc_rows_length : (parents fillers costs : List ℕ) → length (arc_rows parents fillers costs) ≡ 8 * length parents
arc_rows_length parents fillers costs = rows_length _ 8 (λ i. arc_row_length _ _ _) (length parents)

pub member_rows_length : (v : Version) (caps : List ℕ) (proposals : List ℤ) (floors : List ℕ)
    → length (member_rows v caps proposals floors) ≡ member_width v * length caps
member_rows_length v caps proposals floors =
    rows_length _ (member_width v) (λ j. member_row_length v _ _ _) (length caps)

pub job_length : (v : Version) (c : Held)
    → length (job_bytes v c) ≡ length c.note + 8 * length c.parents + member_width v * length c.caps + 16
unfolding job_bytes
job_length v c =
    let note = length c.note in
    let arcs = length c.parents in
    let rows_of_arcs = arc_rows c.parents c.fillers c.costs in
    let rows_of_members = member_rows v c.caps c.proposals c.floors in
    let end = trailer note (note + 8 * arcs) arcs (length c.caps) (version_number v) in
    omega (
      arith,
      length-append c.note rows_of_arcs,
      length-append (c.note ++ rows_of_arcs) rows_of_members,
      length-append (c.note ++ rows_of_arcs ++ rows_of_members) end,
      arc_rows_length c.parents c.fillers c.costs,
      member_rows_length v c.caps c.proposals c.floors,
      trailer_length note (note + 8 * arcs) arcs (length c.caps) (version_number v),
    )

module _ (bytes : List ℕ) (b : Bytes bytes) (at : ℕ) where
  -- the number k bytes after the place
  number : (k width : ℕ) → Stands bytes (at + k) width (in_bytes width (little_endian bytes (at + k) width))
  number k width = number_stands bytes b width (at + k)

  pub arc_row_stands :
      Stands bytes at 8
      (arc_row (little_endian bytes at 2) (little_endian bytes (at + 2) 2) (little_endian bytes (at + 4) 4))
  unfolding arc_row
  arc_row_stands = stands_both (stands_both (number_stands bytes b 2 at) (number 2 2)) (number 4 4)

  pub member_row_stands : (v : Version)
      → Stands bytes at (member_width v)
      (member_row v (little_endian bytes at 8) (signed64 (little_endian bytes (at + 8) 8))
      (little_endian bytes (at + 16) (floor_width v)))
  unfolding member_row
  member_row_stands v =
      rw (bits_of_signed (little_endian bytes (at + 8) 8) (number_small bytes b 8 (at + 8)))
      (stands_both (stands_both (number_stands bytes b 8 at) (number 8 8)) (number 16 (floor_width v)))

  module _ (first : byte_at bytes (at + 14) ≡ 84) (second : byte_at bytes (at + 15) ≡ 74) where
    closing_stands : Stands bytes (at + 14) 2 (84 ∷ 74 ∷ [])
    closing_stands = record { sized = omega arith; same = same_at }
      where
        same_at : (i : ℕ) → i < 2 → byte_at bytes (at + 14 + i) ≡ byte_at (84 ∷ 74 ∷ []) i
        same_at zero l = rw (add-zero (at + 14)) first
        same_at (suc zero) l = let place : at + 14 + 1 ≡ at + 15 = omega arith in rw place second
        same_at (suc (suc i)) l = absurd (omega arith)

    pub trailer_stands :
        Stands bytes at 16
        (trailer (little_endian bytes at 4) (little_endian bytes (at + 4) 4) (little_endian bytes (at + 8) 2)
        (little_endian bytes (at + 10) 2) (little_endian bytes (at + 12) 2))
    unfolding trailer
    trailer_stands =
        let offsets_stand = stands_both (number_stands bytes b 4 at) (number 4 4) in
        let counts_stand = stands_both (stands_both offsets_stand (number 8 2)) (number 10 2) in
        stands_both (stands_both counts_stand (number 12 2)) closing_stands
