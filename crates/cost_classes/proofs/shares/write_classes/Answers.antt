use Prim.Native.Nat.{ℕ, ◌+◌, ◌*◌}
use mathlib.Core.Path.{◌≡◌, refl, sym, ap, ap₂, ◌∙◌}
use mathlib.Core.List.{List}
use native.Mathlib.Nat.{zero-mul}
use native.Mathlib.Omega.{arith}
use lib.ListN.{length, set}
use lib.Seq.{take_all}
use Rattle.basics.specs.Sum.{total}
use Rattle.game.specs.Network.{Network, whole_cost}
use Rattle.game.specs.Tree.{tree_of, network}
use Rattle.game.specs.ByArc.{by_arc}
use Rattle.game.proofs.ByArc.{by_arc_length}
use Rattle.limits.specs.Limits.{most_classes}
use Rattle.answers.specs.Classes.{Classed, classed_of, class_tree, joined, class_shares, paid_in, cost_in}
use Rattle.answers.proofs.ClassParts.{part_length}
use Rattle.answers.proofs.Classed.{class_accepted}
use Rattle.cost_classes.proofs.Totals.{totals_start, filled}
use Rattle.cost_classes.proofs.TakenPart.{as_taken, one_more}
use Rattle.cost_classes.proofs.Fits.{one_a_member, all_shares, fits}
use Rattle.cost_classes.proofs.shares.write_classes.Goals as goal

-- the network of the tree with costs as they are taken from the list
abbrev of_costs : Classed → List ℕ → Network
of_costs w l = network (tree_of w.parents l w.marks)

pub loop-c-init : goal.loop-c-init
unfolding joined
loop-c-init c =
    let pre = c.requires in
    (fits _ pre.classes_value _ _ pre.vertices_value pre.out_len 0, rw zero-mul refl, totals_start _ _)

pub split_class-class-requires-clause-marks_value : goal.split_class-class-requires-clause-marks_value
split_class-class-requires-clause-marks_value c =
    let w : Classed = classed_of c.args.parents.now c.args.costs.now c.args.marks.now c.args.classes in
    rw (as_taken (length w.parents) c.loop-c.c w.costs)
    (class_accepted w c.requires.classes_value c.loop-c.c c.loop-c-test.true)

pub split_class-class-requires-clause-out_len : goal.split_class-class-requires-clause-out_len
split_class-class-requires-clause-out_len c =
    let pre = c.requires in
    let size = length c.args.vertices.now in
    let at = c.loop-c in
    ap length (as_taken size at.c at.out)
    ∙ part_length size c.args.classes at.c at.out
    (at.auto.out ∙ all_shares _ pre.classes_value _ _ pre.vertices_value pre.out_len) c.loop-c-test.true
    ∙ one_a_member _ pre.classes_value _ _ pre.vertices_value pre.out_len

pub loop-c-preserved : goal.loop-c-preserved
loop-c-preserved c =
    let w : Classed = classed_of c.args.parents.now c.args.costs.now c.args.marks.now c.args.classes in
    let pre = c.requires in
    let at = c.loop-c in
    let size = length c.args.vertices.now in
    let here = at.invariant.0 c.loop-c-test.true in
    let costs = as_taken (length w.parents) at.c w.costs in
    let class = c.split_class-class in
    let is = class.ensures.out_after ∙ ap (λ (l : List ℕ). by_arc (of_costs w l)) costs in
    let long = ap length is ∙ by_arc_length (network (class_tree w at.c))
    ∙ sym (one_a_member _ pre.classes_value _ _ pre.vertices_value pre.out_len) in (
      fits _ pre.classes_value _ _ pre.vertices_value pre.out_len (at.c + 1),
      one_more size at.c (class_shares w) at.out _ _ (omega (arith, here.in_out)) at.invariant.1 is long,
      ap₂ (λ (paid cost : ℕ). set (set at.totals at.c paid) (most_classes + at.c) cost)
          (class.ensures.paid_value ∙ ap (λ (l : List ℕ). total (λ x. x) (by_arc (of_costs w l))) costs)
          (class.ensures.cost_value ∙ ap (λ (l : List ℕ). whole_cost (of_costs w l)) costs)
          ∙ filled (paid_in w) (cost_in w) at.c here.few at.invariant.2,
    )

pub returns-clause-out_after : goal.returns-clause-out_after
returns-clause-out_after c =
    let w : Classed = classed_of c.args.parents.now c.args.costs.now c.args.marks.now c.args.classes in
    let pre = c.requires in
    let at = c.loop-c in
    let size = length c.args.vertices.now in
    let end : at.c ≡ w.classes = omega arith in
    let long = at.auto.out ∙ all_shares _ pre.classes_value _ _ pre.vertices_value pre.out_len in
    sym (take_all (at.c * size) at.out (omega (arith, long, ap (λ (k : ℕ). k * size) end)))
    ∙ at.invariant.1
    ∙ ap (λ (k : ℕ). joined k (class_shares w)) end
