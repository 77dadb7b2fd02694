-- What is read from bytes where the rows and the trailer of a job stand.
use Prim.Native.Nat.{ℕ, ◌+◌, ◌-◌, ◌^◌, ◌<◌}
use mathlib.Core.Path.{◌≡◌}
use mathlib.Core.List.{List, [], ◌∷◌, ◌++◌}
use native.Mathlib.Nat.{add-zero}
use native.Mathlib.Omega.{arith}
use lib.ListN.{length}
use lib.IntN.{ℤ, nat_abs}
use Rattle.numbers.specs.Signed.{signed64, bits64}
use Rattle.numbers.proofs.TwosComplement.{signed_of_bits, bits_small}
use Rattle.job_bytes.specs.Numbers.{byte_at, little_endian, in_bytes}
use Rattle.job_bytes.specs.Versions.{floor_width, member_width}
use Rattle.job_bytes.specs.declared.version.Version.{Version}
use Rattle.job_bytes.specs.JobBytes.{arc_row, member_row, trailer}
use Rattle.job_bytes.proofs.Standing.{Stands, stands_first, stands_second, stands_number, in_bytes_length}
use Rattle.job_bytes.proofs.Parts.{longer, shares, shares_length, fields₂, fields₃, fields₄, fields₅}
use Rattle.job_bytes.proofs.Parts.{fields₂_length, fields₃_length, fields₄_length, fields₅_length}

module _ {bytes : List ℕ} {at : ℕ} where
  -- the last number of some bytes
  last_number : (s : List ℕ) (k width x : ℕ) → length s ≡ k → x < 256 ^ width
      → Stands bytes at (k + width) (s ++ in_bytes width x) → little_endian bytes (at + k) width ≡ x
  last_number s k width x e small h =
      let whole : k + width - k ≡ width = omega arith in
      stands_number width small (rw whole at (stands_second s (in_bytes width x) e h))

  module _ (parent filler cost : ℕ) (h : Stands bytes at 8 (arc_row parent filler cost)) where
    front : Stands bytes at 4 (in_bytes 2 parent ++ in_bytes 2 filler)
    unfolding arc_row
    front =
        stands_first (in_bytes 2 parent ++ in_bytes 2 filler) (in_bytes 4 cost)
        (longer (in_bytes 2 parent) 2 2 filler (in_bytes_length 2 parent)) h

    pub parent_read : parent < 256 ^ 2 → little_endian bytes at 2 ≡ parent
    parent_read small =
        stands_number 2 small (stands_first (in_bytes 2 parent) (in_bytes 2 filler) (in_bytes_length 2 parent) front)

    pub filler_read : filler < 256 ^ 2 → little_endian bytes (at + 2) 2 ≡ filler
    filler_read small = last_number (in_bytes 2 parent) 2 2 filler (in_bytes_length 2 parent) small front

    pub cost_read : cost < 256 ^ 4 → little_endian bytes (at + 4) 4 ≡ cost
    unfolding arc_row
    cost_read small =
        last_number (in_bytes 2 parent ++ in_bytes 2 filler) 4 4 cost
        (longer (in_bytes 2 parent) 2 2 filler (in_bytes_length 2 parent)) small h

  module _ (v : Version) (cap : ℕ) (proposal : ℤ) (floor : ℕ)
      (h : Stands bytes at (member_width v) (member_row v cap proposal floor)) where
    shares_stand : Stands bytes at 16 (shares cap proposal)
    unfolding member_row
    shares_stand =
        stands_first (shares cap proposal) (in_bytes (floor_width v) floor) (shares_length cap proposal) h

    pub cap_read : cap < 256 ^ 8 → little_endian bytes at 8 ≡ cap
    cap_read small =
        stands_number 8 small
        (stands_first (in_bytes 8 cap) (in_bytes 8 (bits64 proposal)) (in_bytes_length 8 cap) shares_stand)

    pub proposal_read : nat_abs proposal < 2 ^ 63 → signed64 (little_endian bytes (at + 8) 8) ≡ proposal
    proposal_read small =
        let bits = bits_small proposal small in
        rw (last_number (in_bytes 8 cap) 8 8 (bits64 proposal) (in_bytes_length 8 cap) bits shares_stand)
        (signed_of_bits proposal small)

    pub floor_read : floor < 256 ^ floor_width v → little_endian bytes (at + 16) (floor_width v) ≡ floor
    unfolding member_row
    floor_read small = last_number (shares cap proposal) 16 (floor_width v) floor (shares_length cap proposal) small h

  -- the trailer's fields: the first two, three, four and five of them stand
  module _ (a o m n v : ℕ) (h : Stands bytes at 16 (trailer a o m n v)) where
    five : Stands bytes at 14 (fields₅ a o m n v)
    unfolding trailer
    five = stands_first (fields₅ a o m n v) (84 ∷ 74 ∷ []) (fields₅_length a o m n v) h

    four : Stands bytes at 12 (fields₄ a o m n)
    four = stands_first (fields₄ a o m n) (in_bytes 2 v) (fields₄_length a o m n) five

    three : Stands bytes at 10 (fields₃ a o m)
    three = stands_first (fields₃ a o m) (in_bytes 2 n) (fields₃_length a o m) four

    two : Stands bytes at 8 (fields₂ a o)
    two = stands_first (fields₂ a o) (in_bytes 2 m) (fields₂_length a o) three

    pub arc_offset_read : a < 256 ^ 4 → little_endian bytes at 4 ≡ a
    arc_offset_read small =
        stands_number 4 small (stands_first (in_bytes 4 a) (in_bytes 4 o) (in_bytes_length 4 a) two)

    pub member_offset_read : o < 256 ^ 4 → little_endian bytes (at + 4) 4 ≡ o
    member_offset_read small = last_number (in_bytes 4 a) 4 4 o (in_bytes_length 4 a) small two

    pub arcs_read : m < 256 ^ 2 → little_endian bytes (at + 8) 2 ≡ m
    arcs_read small = last_number (fields₂ a o) 8 2 m (fields₂_length a o) small three

    pub members_read : n < 256 ^ 2 → little_endian bytes (at + 10) 2 ≡ n
    members_read small = last_number (fields₃ a o m) 10 2 n (fields₃_length a o m) small four

    pub version_read : v < 256 ^ 2 → little_endian bytes (at + 12) 2 ≡ v
    version_read small = last_number (fields₄ a o m n) 12 2 v (fields₄_length a o m n) small five

    closing : Stands bytes (at + 14) 2 (84 ∷ 74 ∷ [])
    unfolding trailer
    closing = stands_second (fields₅ a o m n v) (84 ∷ 74 ∷ []) (fields₅_length a o m n v) h

    pub closing0_read : byte_at bytes (at + 14) ≡ 84
    closing0_read = rw (add-zero (at + 14)) at (closing.same 0 (omega arith))

    pub closing1_read : byte_at bytes (at + 15) ≡ 74
    closing1_read = let place : at + 14 + 1 ≡ at + 15 = omega arith in rw place at (closing.same 1 (omega arith))
