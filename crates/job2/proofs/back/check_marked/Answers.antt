use Rattle.game.proofs.DeadEnds.{dead_ends_length}
use Rattle.limits.specs.Limits.{most_arcs}
use Rattle.basics.proofs.Lists.{zeros_length}
use Rattle.answers.proofs.Limits.{tree_limits}
use Rattle.job_checks.proofs.Marked.{marks_part}
use Rattle.job2.proofs.back.check_marked.Goals as goal

pub slice_bounds-ends-end : goal.slice_bounds-ends-end
slice_bounds-ends-end c = (tree_limits _ c.requires.costs_value).arcs

pub returns : goal.returns
returns c =
    let marks =
    marks_part _ _ c.requires.costs_value _ (zeros_length most_arcs _ (tree_limits _ c.requires.costs_value).arcs)
    c.mark_dead_ends.auto.out c.mark_dead_ends.ensures.out_after in
    rw (dead_ends_length c.args.parents.now) at (rw marks at c.check_ends.ensures)
