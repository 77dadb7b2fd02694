-- Lists that 10 accepts have room for the values of an accepted job.
use Prim.Native.Nat.{ℕ}
use mathlib.Core.Path.{◌≡◌}
use mathlib.Core.List.{List, [], ◌∷◌}
use native.Mathlib.Omega.{arith}
use lib.ListN.{length}
use Rattle.answer_forms.specs.Answer.{accepted}
use Rattle.job_bytes.specs.declared.version.Version.TheVariants.{One}
use Rattle.job_checks.specs.Inner.{Room}
use Rattle.job.specs.Reader.{Lent, room_in}
use Rattle.job_checks.proofs.Lent.{roomy}
use Rattle.job_checks.proofs.Accepted.{JobAccepted, few_arcs, few_members}

pub has_room : (bytes : List ℕ) (l : Lent) → room_in l ≡ accepted → JobAccepted One bytes
    → Room bytes (length l.parents) (length l.costs) (length l.caps) (length l.proposals)
has_room bytes l e ok =
    let room = roomy (length l.parents ∷ length l.costs ∷ length l.caps ∷ length l.proposals ∷ []) e in
    record {
      for_parents = omega (arith, room 0 (omega arith), few_arcs One bytes ok);
      for_costs = omega (arith, room 1 (omega arith), few_arcs One bytes ok);
      for_caps = omega (arith, room 2 (omega arith), few_members One bytes ok);
      for_proposals = omega (arith, room 3 (omega arith), few_members One bytes ok);
    }
