use Rattle.std.proofs.Common.{◌≡◌, ℕ, ◌+◌, ◌-◌, get_or, arith, rules, refl, ap}
use Rattle.std.proofs.lemmas.Int.{to_z-of_z}
use Rattle.basics.specs.Integer.{plus}
use Rattle.game.specs.Proposal.{share}
use mir.Val.{SFits}
use mir.Syntax.{w64}
use Rattle.tree.proofs.MemberPass.{up_to_le}
use Rattle.search.proofs.Bound.{Proposed, proposal_length}
use Rattle.search.proofs.ExcessPass.{Met, excess, passing_start, passing_on, passing_end}
use Rattle.search.proofs.ExcessPass.{passing_place, met_member, met_other, passing_fits, passing_excess, passing_carry}
use Rattle.search.proofs.excess.find_excesses.Goals as goal
use Rattle.search.proofs.excess.find_excesses.Goals.{then-marks-i-eq1, else-marks-i-eq1}

pub loop-i-init : goal.loop-i-init
loop-i-init c =
    let pre = c.requires in
    let ok : Proposed _ _ _ _ =
    record { sound = pre.sound; costed = pre.costed; marks = pre.marked; accepts = pre.proposal_value } in
    (ok, passing_start _ _ _ _ (omega arith) (proposal_length _ _ _ _ ok))

pub offset_bounds-proposal-j : goal.offset_bounds-proposal-j
offset_bounds-proposal-j c =
    let inv = c.loop-i.invariant in
    omega (arith, inv.1.left, up_to_le c.args.marks.now c.loop-i.i, inv.0.sound.few)

pub bounds-proposal-j : goal.bounds-proposal-j
bounds-proposal-j c =
    let inv = c.loop-i.invariant in
    omega (
      arith,
      passing_place _ _ _ _ inv.0 {i = c.loop-i.i - 1} (omega arith) (omega arith) inv.1 c.if-marks-i-eq1.true,
      proposal_length _ _ _ _ inv.0,
    )

pub overflow_add-amount-then-marks-i-eq1 : goal.overflow_add-amount-then-marks-i-eq1
overflow_add-amount-then-marks-i-eq1 c =
    let inv = c.loop-i.invariant in
    let fits : SFits w64 (share c.args.proposal.now (c.loop-i.j - 1)) = search rules in
    let weight : c.plus-amount.result ≡ plus (share c.args.proposal.now (c.loop-i.j - 1)) =
    simp to_z-of_z at c.plus-amount.ensures in
    omega (
      arith,
      passing_fits _ _ _ _ inv.0 {i = c.loop-i.i - 1} (omega arith) (omega arith) inv.1
          (met_member _ _ _ _ inv.0 {i = c.loop-i.i - 1} (omega arith) (omega arith) inv.1 c.if-marks-i-eq1.true refl
          refl),
      weight,
    )

met : (c : goal.After-from-in-loop-i)
    → Met c.args.marks.now c.args.proposal.now c.loop-i.below (c.loop-i.i - 1) c.loop-i.j c.if-marks-i-eq1.j
    c.if-marks-i-eq1.amount
met c =
    let inv = c.loop-i.invariant in
    elim c.if-marks-i-eq1.branch [
      | then-marks-i-eq1 w ↦
          let fits : SFits w64 (share c.args.proposal.now (c.loop-i.j - 1)) = search rules in
          rw (w.j-is, w.amount-is)
          (met_member _ _ _ _ inv.0 (omega arith) (omega arith) inv.1 w.if-marks-i-eq1.true refl
          (ap (λ (x : ℕ). get_or c.loop-i.below (c.loop-i.i - 1 + 1) 0 + x) (simp to_z-of_z at w.plus-amount.ensures)))
      | else-marks-i-eq1 w ↦
          rw (w.j-is, w.amount-is)
          (met_other _ _ _ _ inv.0 (omega arith) (omega arith) inv.1 w.if-marks-i-eq1.false)
    ]

found : (c : goal.After-from-in-loop-i)
    → c.saturating_sub-x.result
    ≡ excess c.args.parents.now c.args.costs.now c.args.marks.now c.args.proposal.now c.loop-i.i
found c =
    let inv = c.loop-i.invariant in
    passing_excess _ _ _ _ inv.0 (omega arith) (omega arith) inv.1 (met c) c.from.ensures c.saturating_sub-x.ensures

pub overflow_add-below : goal.overflow_add-below
overflow_add-below c =
    let inv = c.loop-i.invariant in
    omega (arith, passing_carry _ _ _ _ inv.0 (omega arith) (omega arith) inv.1 (found c) c.from-in-loop-i.ensures)

pub loop-i-preserved : goal.loop-i-preserved
loop-i-preserved c =
    let inv = c.loop-i.invariant in (
      inv.0,
      passing_on _ _ _ _ inv.0 (omega arith) (omega arith) inv.1 (found c) c.from-in-loop-i.ensures (met c),
    )

pub returns : goal.returns
returns c = passing_end _ _ _ _ c.loop-i.invariant.0 (omega arith) c.loop-i.invariant.1
