use mathlib.Core.Path.{◌∙◌}
use Rattle.report_text.proofs.Found.{needs_found}
use Rattle.report_text.proofs.accepted.put_cost.Goals as goal

pub returns : goal.returns
returns c =
    let pre = c.requires in
    let told = c.list_needs.ensures.result_value ∙ needs_found _ pre.marks_value _ pre.needs_len in
    record { put = rw told at c.put_needs.ensures.put; upper_bound = c.put_needs.ensures.upper_bound }
