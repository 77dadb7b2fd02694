use Rattle.limits.specs.Limits.{most_arcs}
use Rattle.basics.proofs.Lists.{zeros_length}
use Rattle.job_checks.proofs.Marked.{marks_part}
use Rattle.job2.proofs.converter.put_marked.Goals as goal

pub returns : goal.returns
returns c =
    let marks = marks_part _ _ c.requires.tree _ (zeros_length most_arcs _ c.requires.few)
    c.mark_dead_ends.auto.out c.mark_dead_ends.ensures.out_after in
    rw marks at c.put_job.ensures
