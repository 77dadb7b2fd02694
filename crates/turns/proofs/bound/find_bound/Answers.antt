use native.Mathlib.Omega.{arith}
use Rattle.turns.proofs.Narrowing.{bracket_start, bracket_order, bracket_wide}
use Rattle.turns.proofs.bound.find_bound.Goals as goal

pub loop-under-init : goal.loop-under-init
loop-under-init c =
    let pre = c.requires in
    (pre.keys, pre.more_in_bounds, bracket_start _ _ pre.more_in_bounds _ _ c.ends_of-ends.ensures)

pub guess-number-requires : goal.guess-number-requires
guess-number-requires c =
    let inv = c.loop-under.invariant in
    let b = inv.2 in
    record {
      low_lt_high = bracket_order _ _ b;
      high_le_key_limit = b.limit;
      under_lt_more = c.loop-under-test.true;
      more_lt_over = b.too_many;
      more_le_most_arcs = omega (arith, inv.0.few, inv.1);
    }

pub inside-middle-requires : goal.inside-middle-requires
inside-middle-requires c =
    let inv = c.loop-under.invariant in
    bracket_wide _ _ inv.2 inv.0 c.loop-under-test.true
