use native.Mathlib.Omega.{arith}
use Rattle.tree.proofs.InwardPass.{passing_start, passing_end}
use Rattle.margin.proofs.Given.{needs_sized, counts_sized, need_fits}
use Rattle.margin.proofs.RaisePass.{raising_at, raising_carry, raising_on}
use Rattle.margin.proofs.raise.write_raised.Goals as goal

pub loop-i-init : goal.loop-i-init
loop-i-init c = passing_start _ _ (omega arith) c.requires.out_len

pub bounds-needs-i : goal.bounds-needs-i
bounds-needs-i c = omega (arith, needs_sized c.requires.given)

pub bounds-counts-i : goal.bounds-counts-i
bounds-counts-i c = omega (arith, counts_sized c.requires.given)

pub raised_need-raised-requires : goal.raised_need-raised-requires
raised_need-raised-requires c =
    record {
      need_le_most_whole = need_fits c.requires.given _ (omega arith);
      margin_le_most_whole = c.requires.margin_le_most_whole;
    }

pub overflow_add-below : goal.overflow_add-below
overflow_add-below c =
    let given = c.requires.given in
    omega (
      arith,
      raising_carry _ _ _ _ given (omega arith) (omega arith) c.loop-i.invariant c.from.ensures
          (raising_at _ _ _ _ given (omega arith) (omega arith) c.loop-i.invariant c.raised_need-raised.ensures)
          c.requires.margin_le_most_whole,
    )

pub loop-i-preserved : goal.loop-i-preserved
loop-i-preserved c =
    let given = c.requires.given in
    raising_on _ _ _ _ given (omega arith) (omega arith) c.loop-i.invariant c.from.ensures
    (raising_at _ _ _ _ given (omega arith) (omega arith) c.loop-i.invariant c.raised_need-raised.ensures)

pub returns : goal.returns
returns c = passing_end _ _ (omega arith) c.loop-i.invariant
