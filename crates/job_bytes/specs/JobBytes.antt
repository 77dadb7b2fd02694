-- The bytes of a job, made of its note and values.
use Rattle.std.specs.Prelude.{ℕ, zero, suc, ◌+◌, ◌*◌, List, [], ◌∷◌, ◌++◌, length, get_or, replicate, ℤ, pos}
use Rattle.numbers.specs.Signed.{bits64}
use Rattle.job_bytes.specs.Numbers.{in_bytes}
use Rattle.job_bytes.specs.Versions.{version_number, floor_width}
use Rattle.job_bytes.specs.declared.version.Version.{Version}
use Rattle.job_bytes.specs.declared.version.Version.TheVariants.{One}

-- what the bytes of a job hold: one parent, one filler and one cost an arc, one cap, one proposal and one floor a
-- member. A filler of version 2 is a mark; in version 1 fillers and floors are 0
pub record Held : Type 0 where
  pub note : List ℕ
  pub parents : List ℕ
  pub fillers : List ℕ
  pub costs : List ℕ
  pub caps : List ℕ
  pub proposals : List ℤ
  pub floors : List ℕ

abbrev pub held : (note parents fillers costs caps : List ℕ) → List ℤ → List ℕ → Held
held note parents fillers costs caps proposals floors =
    record {
      note = note;
      parents = parents;
      fillers = fillers;
      costs = costs;
      caps = caps;
      proposals = proposals;
      floors = floors;
    }

-- what jobs of both versions hold
pub record Contents : Type 0 where
  pub note : List ℕ
  pub parents : List ℕ
  pub costs : List ℕ
  pub caps : List ℕ
  pub proposals : List ℤ

abbrev pub contents : (note parents costs caps : List ℕ) → List ℤ → Contents
contents note parents costs caps proposals =
    record { note = note; parents = parents; costs = costs; caps = caps; proposals = proposals }

-- the same with these fillers and with floors of 0
abbrev pub filled_with : List ℕ → Contents → Held
filled_with fillers c =
    held c.note c.parents fillers c.costs c.caps c.proposals (replicate (length c.caps) 0)

-- as version 1 has it: the fillers are 0
abbrev pub plain : Contents → Held
plain c = filled_with (replicate (length c.parents) 0) c

-- 8 bytes: parent 16 bits, filler 16 bits, cost 32 bits
unfoldable pub arc_row : (parent filler cost : ℕ) → List ℕ
arc_row parent filler cost = in_bytes 2 parent ++ in_bytes 2 filler ++ in_bytes 4 cost

-- 16 bytes: cap 64 bits, proposal 64 bits two's complement; in version 2 a floor of 64 bits after them
unfoldable pub member_row : Version → ℕ → ℤ → ℕ → List ℕ
member_row v cap proposal floor = in_bytes 8 cap ++ in_bytes 8 (bits64 proposal) ++ in_bytes (floor_width v) floor

-- row 0, row 1, .., row (n - 1)
unfoldable pub rows : (ℕ → List ℕ) → ℕ → List ℕ
rows row zero = []
rows row (suc n) = rows row n ++ row n

-- 16 bytes: the offsets of the arc rows and of the member rows, 32 bits each; the number of arcs, the number of members
-- and the version, 16 bits each; then 54 and 4A hexadecimal
unfoldable pub trailer : (offset_of_arcs offset_of_members arcs members version : ℕ) → List ℕ
trailer offset_of_arcs offset_of_members arcs members version =
    in_bytes 4 offset_of_arcs
    ++ in_bytes 4 offset_of_members
    ++ in_bytes 2 arcs
    ++ in_bytes 2 members
    ++ in_bytes 2 version
    ++ (84 ∷ 74 ∷ [])

-- the rows of arc 1 on, and those of member 0 on
abbrev pub arc_rows : (parents fillers costs : List ℕ) → List ℕ
arc_rows parents fillers costs =
    rows (λ i. arc_row (get_or parents i 0) (get_or fillers i 0) (get_or costs i 0)) (length parents)

abbrev pub member_rows : Version → List ℕ → List ℤ → List ℕ → List ℕ
member_rows v caps proposals floors =
    rows (λ j. member_row v (get_or caps j 0) (get_or proposals j (pos 0)) (get_or floors j 0)) (length caps)

-- the note, the arc rows, the member rows and the trailer of a version, one after the other
unfoldable pub job_bytes : Version → Held → List ℕ
job_bytes v h =
    let note = length h.note in
    let arcs = length h.parents in
    h.note
    ++ arc_rows h.parents h.fillers h.costs
    ++ member_rows v h.caps h.proposals h.floors
    ++ trailer note (note + 8 * arcs) arcs (length h.caps) (version_number v)

-- the job of version 1
abbrev pub plain_job : Contents → List ℕ
plain_job c = job_bytes One (plain c)
