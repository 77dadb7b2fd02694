use lib.ListN.{length}
use mathlib.Core.Path.{◌∙◌, sym}
use borrow.Author.Tests.{eq-eqb}
use Rattle.limits.specs.Limits.{most_arcs}
use Rattle.answers.specs.Classes.{classed_of, classed_check}
use Rattle.answers.proofs.Accepted.{count_accepted}
use Rattle.cost_classes.proofs.Cut.{cut_front}
use Rattle.cost_classes.proofs.check.check_classed.Goals as goal

pub returns : goal.returns
unfolding classed_check
returns c =
    let args = c.args in
    let several = sym c.in_ok-check_count.ensures in
    let few = sym c.in_ok-check_count-2.ensures in
    rw (several, few, eq-eqb _ _ c.if-costs-classes.false)
    (c.check_tree.ensures
    ∙ cut_front (classed_of args.parents.now args.costs.now args.marks.now args.classes)
    (count_accepted most_arcs 1 (length args.parents.now) few).1 c.write_sums.ensures _)
