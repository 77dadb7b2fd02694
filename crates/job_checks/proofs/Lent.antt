-- What it means that lent lists are accepted.
use Prim.Native.Nat.{ℕ, suc, ◌<◌, ◌≤◌}
use mathlib.Core.Path.{◌≡◌}
use mathlib.Core.List.{List}
use native.Mathlib.Omega.{arith}
use borrow.Author.Tests.{ltb-false}
use lib.ListN.{length, get_or}
use lib.Dec.{ltb}
use Rattle.limits.specs.Limits.{most_arcs}
use Rattle.game.specs.Tree.{of_arc}
use Rattle.answer_forms.specs.Answer.{accepted, fault}
use Rattle.answer_forms.proofs.Composed.{no_fault}
use Rattle.answers.proofs.Accepted.{each_accepted}
use Rattle.job_checks.specs.JobCheck.{room_check}

-- the list with this number has room for the largest tree
pub roomy : (lengths : List ℕ) → room_check lengths ≡ accepted → (i : ℕ) → i < length lengths
    → most_arcs ≤ get_or lengths i 0
unfolding room_check
roomy lengths e i h =
    let here = each_accepted (λ k. fault (ltb (of_arc lengths k) most_arcs) 10 0) (length lengths) e (suc i)
    (record { low = omega arith; high = omega arith }) in
    ltb-false (get_or lengths i 0) most_arcs (no_fault (ltb (get_or lengths i 0) most_arcs) 10 0 here)
