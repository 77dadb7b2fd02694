use Rattle.std.proofs.Common.{◌-◌, ◌∙◌, arith}
use Rattle.margin.proofs.Given.{given_of, needs_sized, need_at, need_fits, entry_of}
use Rattle.margin.proofs.Between.{between_start, between_up, between_down, between_end}
use Rattle.margin.proofs.search.find_margin.Goals as goal

pub bounds-needs-arc : goal.bounds-needs-arc
bounds-needs-arc c =
    let pre = c.requires in
    omega (arith, needs_sized (given_of pre.sound pre.costed pre.listed pre.measured))

pub overflow_add-high : goal.overflow_add-high
overflow_add-high c =
    let pre = c.requires in
    omega (
      arith,
      need_fits (given_of pre.sound pre.costed pre.listed pre.measured) (c.args.arc - 1) (omega arith),
    )

pub loop-low-init : goal.loop-low-init
loop-low-init c =
    let pre = c.requires in
    let given = given_of pre.sound pre.costed pre.listed pre.measured in (
      given,
      need_fits given _ (omega arith),
      pre.out_len,
      between_start _ _ pre.sound.rising pre.fact (need_at given pre.fact.high (omega arith)),
    )

pub loop-low-preserved-then-out-arc : goal.loop-low-preserved-then-out-arc
loop-low-preserved-then-out-arc c =
    let inv = c.loop-low.invariant in (
      inv.0,
      inv.1,
      c.write_raised.auto.out ∙ inv.2,
      between_up _ _ inv.3 (omega arith) (omega arith)
          (entry_of _ _ c.write_raised.ensures c.requires.fact.high (omega arith)) c.if-out-arc.true,
    )

pub loop-low-preserved : goal.loop-low-preserved
loop-low-preserved c =
    let inv = c.loop-low.invariant in (
      inv.0,
      inv.1,
      c.write_raised.auto.out ∙ inv.2,
      between_down _ _ inv.3 (omega arith) (omega arith)
          (entry_of _ _ c.write_raised.ensures c.requires.fact.high (omega arith)) c.if-out-arc.false,
    )

pub returns-clause-value : goal.returns-clause-value
returns-clause-value c =
    between_end _ _ c.requires.sound.rising c.requires.fact c.requires.arc_nonzero c.loop-low.invariant.3 (omega arith)
