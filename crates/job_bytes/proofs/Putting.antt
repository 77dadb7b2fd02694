-- A number in bytes, the least significant first, written byte by byte; and the parts of a job.
use Prim.Native.Nat.{ℕ, zero, suc, ◌+◌, ◌*◌, ◌-◌, ◌/◌, ◌%◌, ◌^◌, ◌<◌, ◌≤◌}
use mathlib.Core.Path.{◌≡◌, ap}
use mathlib.Core.List.{List, [], ◌∷◌, ◌++◌}
use native.Mathlib.Numerals.{add-one}
use native.Mathlib.Omega.{arith}
use lib.ListN.{length, get_or, set, drop, replicate, get_or-replicate}
use lib.IntN.{ℤ, pos}
use Rattle.std.proofs.Math.Nat.{div-div-eq-div-mul, div-one, pow-suc, pow-succ'}
use Rattle.std.proofs.Common.{append-nil}
use Rattle.std.proofs.lemmas.Grind.{common_steps}
use borrow.Rule.Slice.PartMut.{put_mid, mid_of}
use Rattle.buffer.specs.Put.{Put}
use Rattle.buffer.proofs.Pieces.{put_then}
use Rattle.job_bytes.specs.Numbers.{in_bytes}
use Rattle.job_bytes.specs.Versions.{version_number}
use Rattle.job_bytes.specs.declared.version.Version.{Version}
use Rattle.job_bytes.specs.JobBytes.{Held, rows, member_row, arc_rows, member_rows, trailer, job_bytes}
use Rattle.job_bytes.proofs.Entries.{front_more}
use Rattle.job_bytes.proofs.Standing.{in_bytes_length}
use Rattle.job_bytes.proofs.Parts.{arc_rows_length}

-- byte i of a number
in_bytes_suc : (i n : ℕ) → in_bytes (suc i) n ≡ in_bytes i n ++ (n / 256 ^ i % 256 ∷ [])
unfolding in_bytes
in_bytes_suc zero n = rw div-one
in_bytes_suc (suc i) n =
    ap (λ (l : List ℕ). n % 256 ∷ l)
    (rw (pow-succ' 256 i, ← div-div-eq-div-mul n 256 (256 ^ i)) (in_bytes_suc i (n / 256)))

-- what is left of a number after one byte more
pub left_more : (i n rest : ℕ) → rest ≡ n / 256 ^ i → rest / 256 ≡ n / 256 ^ (i + 1)
left_more i n rest e = rw (e, add-one i, pow-suc 256 i) (div-div-eq-div-mul n (256 ^ i) 256)

-- one byte more
pub bytes_more : (i n rest : ℕ) (before : List ℕ) → i < length before → rest ≡ n / 256 ^ i
    → set (in_bytes i n ++ drop i before) i (rest % 256) ≡ in_bytes (i + 1) n ++ drop (i + 1) before
bytes_more i n rest before h e =
    rw (front_more (in_bytes i n) i before (rest % 256) (in_bytes_length i n) h, add-one i, in_bytes_suc i n, e)

-- all bytes of a number are written over a part of a list
pub bytes_put : (before : List ℕ) (at width n i : ℕ) (part : List ℕ) → at + width ≤ length before → i ≡ width
    → part ≡ in_bytes i n ++ drop i (mid_of at (at + width - at) before)
    → Put before at (in_bytes width n) (put_mid at (at + width - at) before part) (at + width)
bytes_put before at width n i part room end e =
    let long : length (in_bytes width n) ≡ width = in_bytes_length width n in
    let none : drop width (mid_of at (at + width - at) before) ≡ [] = grind (arith, common_steps) in
    let all : part ≡ in_bytes width n = rw (end, none, append-nil) at e in
    record {
      ends = omega arith;
      fits = room;
      same_length = grind (arith, common_steps);
      written = grind (arith, common_steps);
    }

-- the first rows of so many members, with floors of 0
abbrev pub floorless : Version → List ℕ → List ℤ → ℕ → List ℕ
floorless v caps proposals =
    rows (λ j. member_row v (get_or caps j 0) (get_or proposals j (pos 0)) (get_or (replicate (length caps) 0) j 0))

-- the parts of a job, written one after the other
pub job_put : {before noted with_arcs with_members after : List ℕ} {arcs_at members_at end place : ℕ}
    (v : Version) (c : Held)
    → Put before 0 c.note noted arcs_at
    → Put noted arcs_at (arc_rows c.parents c.fillers c.costs) with_arcs members_at
    → Put with_arcs members_at (member_rows v c.caps c.proposals c.floors) with_members end
    → Put with_members end (trailer arcs_at members_at (length c.parents) (length c.caps) (version_number v)) after
    place
    → Put before 0 (job_bytes v c) after place
unfolding job_bytes
job_put {arcs_at = arcs_at} {members_at = members_at} v c note arcs members last =
    let first : arcs_at ≡ length c.note = omega (arith, note.ends) in
    let second : members_at ≡ length c.note + 8 * length c.parents =
    omega (arith, first, arcs.ends, arc_rows_length c.parents c.fillers c.costs) in
    put_then (put_then (put_then note arcs) members) (rw (first, second) at last)

-- one member row more, with a floor of 0
pub member_more : (v : Version) (caps : List ℕ) (proposals : List ℤ) (j : ℕ) → j < length caps
    → floorless v caps proposals (suc j)
    ≡ floorless v caps proposals j ++ member_row v (get_or caps j 0) (get_or proposals j (pos 0)) 0
unfolding rows
member_more v caps proposals j h =
    ap (λ (f : ℕ). floorless v caps proposals j ++ member_row v (get_or caps j 0) (get_or proposals j (pos 0)) f)
    (get_or-replicate (length caps) j 0 0 h)
