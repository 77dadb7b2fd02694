use Prim.Native.Nat.{◌-◌}
use mathlib.Core.Path.{refl, sym, ◌∙◌}
use native.Mathlib.Omega.{arith}
use Rattle.std.proofs.lemmas.Result.{err_from_is_err_and}
use Rattle.level.proofs.Stopped.{none_left, stop_here, stop_later}
use Rattle.level.proofs.stops.first_stop.Goals as goal

pub returns-in_err-stop_at : goal.returns-in_err-stop_at
returns-in_err-stop_at c =
    λ members.
    let at = c.loop-i in
    let p = err_from_is_err_and c.from_residual.result c.from_residual.ensures.1 in
    rw (p.1, p.2)
    (stop_here members _ _ _ _ at.i (at.i - 1) (omega arith) (c.in_err-stop_at.ensures members) refl
    ∙ sym (at.invariant members))

pub loop-i-preserved : goal.loop-i-preserved
loop-i-preserved c =
    λ members.
    let at = c.loop-i in
    at.invariant members
    ∙ stop_later members _ _ _ _ at.i (at.i - 1) (omega arith) (c.in_ok-stop_at.ensures members) refl

pub returns : goal.returns
returns c =
    λ members.
    sym (c.loop-i.invariant members ∙ none_left members _ _ _ _ (omega (arith, c.loop-i-test.false)))
