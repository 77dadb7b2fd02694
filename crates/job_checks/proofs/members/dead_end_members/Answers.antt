use mathlib.Core.Path.{◌∙◌}
use native.Mathlib.Omega.{arith}
use Rattle.basics.proofs.Lists.{zeros_length}
use Rattle.job_checks.proofs.Counted.{dead_ends_counted}
use Rattle.job_checks.proofs.members.dead_end_members.Goals as goal

pub returns : goal.returns
returns c =
    let count = c.min-n.ensures in
    c.mark_dead_ends.ensures.result_value ∙ dead_ends_counted _ _ _ (zeros_length 1023 _ (omega (arith, count)) ∙ count)
