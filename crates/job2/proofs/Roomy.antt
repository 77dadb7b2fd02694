-- What the reading of an accepted job into lists that 10 accepts asks for.
use Prim.Native.Nat.{ℕ, ◌≤◌}
use mathlib.Core.Path.{◌≡◌, sym}
use mathlib.Core.List.{List, [], ◌∷◌}
use native.Mathlib.Omega.{arith}
use lib.ListN.{length}
use Rattle.answer_forms.specs.Answer.{accepted}
use Rattle.job_bytes.specs.Format.{job_arcs, job_members}
use Rattle.job_bytes.specs.declared.version.Version.TheVariants.{Two}
use Rattle.job_checks.specs.Inner.{Room}
use Rattle.job_checks.specs.JobCheck.{job_check}
use Rattle.job_checks.proofs.Lent.{roomy}
use Rattle.job_checks.proofs.Accepted.{job_accepted, few_arcs, few_members}
use Rattle.job2.specs.Reader.{Lent2, room2_in}
use Rattle.job2.proofs.Readable.{Readable, readable}

-- the job can be read, and the lists have room for its values
pub record Roomy (bytes : List ℕ) (l : Lent2) : Type 0 where
  pub job : Readable Two bytes
  pub four : Room bytes (length l.parents) (length l.costs) (length l.caps) (length l.proposals)
  pub for_marks : job_arcs bytes ≤ length l.marks
  pub for_floors : job_members bytes ≤ length l.floors

pub has_room : (bytes : List ℕ) (l : Lent2) → accepted ≡ room2_in l → accepted ≡ job_check Two bytes → Roomy bytes l
has_room bytes l e job =
    let room = roomy
    (length l.parents
    ∷ length l.costs
    ∷ length l.marks
    ∷ length l.caps
    ∷ length l.proposals
    ∷ length l.floors
    ∷ []) (sym e) in
    let ok = job_accepted Two bytes (sym job) in
    let m = few_arcs Two bytes ok in
    let n = few_members Two bytes ok in
    record {
      job = readable Two bytes (sym job);
      four =
          record {
            for_parents = omega (arith, room 0 (omega arith), m);
            for_costs = omega (arith, room 1 (omega arith), m);
            for_caps = omega (arith, room 3 (omega arith), n);
            for_proposals = omega (arith, room 4 (omega arith), n);
          };
      for_marks = omega (arith, room 2 (omega arith), m);
      for_floors = omega (arith, room 5 (omega arith), n);
    }
