-- What it means that the caps are accepted.
use Prim.Native.Nat.{ℕ}
use mathlib.Core.Path.{◌≡◌, refl}
use mathlib.Core.List.{List}
use borrow.Author.Tests.{ltb-false}
use lib.ListN.{get_or}
use Rattle.answer_forms.specs.Answer.{accepted}
use Rattle.limits.specs.Limits.{most_share}
use Rattle.tree.specs.Passes.{Capped}
use Rattle.answers.specs.Level.{outside_cap, caps_check}
use Rattle.answers.proofs.InRange.{list_accepted}

pub caps_accepted : (members : ℕ) (caps : List ℕ) → caps_check members caps ≡ accepted → Capped members caps
caps_accepted members caps e =
    let ok = list_accepted outside_cap 0 members caps refl e in
    record { sized = ok.same; limited = λ j. ltb-false most_share (get_or caps j 0) (ok.inside j) }
