use mathlib.Core.Path.{◌≡◌, refl, ap, ◌∙◌}
use lib.ListN.{length}
use native.Mathlib.Omega.{arith}
use Rattle.basics.proofs.Lists.{list_length}
use Rattle.game.specs.Floors.{adjusted}
use Rattle.tree.specs.Passes.{network_at}
use Rattle.tree.proofs.InwardPass.{waiting_on, passing_start, passing_end}
use Rattle.level.proofs.AdjustedPass.{adjusting_at, adjusting_carry, adjusting_on}
use Rattle.level.proofs.adjusted.write_adjusted.Goals as goal

pub loop-i-init : goal.loop-i-init
loop-i-init c =
    (record { same = λ i h. refl }, passing_start _ _ (omega arith) (c.write_at_members.auto.out ∙ c.requires.out_len))

pub bounds-needs-i : goal.bounds-needs-i
bounds-needs-i c = omega (arith, ap length c.requires.needs_value ∙ list_length _ (length c.args.parents.now))

-- the number written is the adjusted need
found : (c : goal.After-from)
    → c.max-adjusted.result
    ≡ adjusted (network_at c.args.parents.now c.args.costs.now c.args.vertices.now) c.args.floors.now c.loop-i.i
found c =
    let pre = c.requires in
    let inv = c.loop-i.invariant in
    adjusting_at _ _ _ _ pre.sound pre.costed pre.listed pre.needs_value c.write_at_members.ensures (omega arith)
    (omega arith) inv.0 inv.1 c.max-own.ensures c.max-adjusted.ensures

pub overflow_add-below : goal.overflow_add-below
overflow_add-below c =
    let pre = c.requires in
    omega (
      arith,
      adjusting_carry _ _ _ _ pre.sound pre.costed pre.listed (omega arith) (omega arith) c.loop-i.invariant.1
          c.from.ensures (found c) pre.capped,
    )

pub loop-i-preserved : goal.loop-i-preserved
loop-i-preserved c =
    let pre = c.requires in (
      waiting_on (omega arith) _ c.loop-i.invariant.0,
      adjusting_on _ _ _ _ pre.sound pre.costed pre.listed (omega arith) (omega arith) c.loop-i.invariant.1
          c.from.ensures (found c),
    )

pub returns : goal.returns
returns c = passing_end _ _ (omega arith) c.loop-i.invariant.1
