use Prim.Native.Nat.{◌-◌}
use mathlib.Core.Path.{◌≡◌, sym, ◌∙◌}
use native.Mathlib.Nat.{sub-add-eq}
use native.Mathlib.Omega.{arith}
use Rattle.answers.specs.Checks.{bits_check}
use Rattle.bits.proofs.Beyond.{bits_found, bits_skip}
use Rattle.bits.proofs.check_group.Goals as goal

pub returns-then-clear-eq0 : goal.returns-then-clear-eq0
returns-then-clear-eq0 c =
    let at = c.loop-j in
    let set = c.clear_run-clear.ensures.none c.if-clear-eq0.true in
    let found = sym (at.invariant ∙ bits_found _ (1024 - at.j) at.j (omega arith) set) in
    rw (c.at.ensures.reason_value, c.at.ensures.place_value) found

pub loop-j-preserved : goal.loop-j-preserved
loop-j-preserved c =
    let at = c.loop-j in
    let clear = c.clear_run-clear.ensures.clear in
    rw sub-add-eq (at.invariant ∙ bits_skip _ c.clear_run-clear.result (1024 - at.j) at.j clear)

pub returns : goal.returns
unfolding bits_check
returns c =
    let end : 1024 - c.loop-j.j ≡ 0 = omega arith in
    sym (rw end at c.loop-j.invariant)
