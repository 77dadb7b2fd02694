use native.Mathlib.Omega.{arith}
use Rattle.answers.proofs.Limits.{tree_limits}
use Rattle.report_text.proofs.Found.{few_members}
use Rattle.report_text.proofs.Joined.{tree_joined}
use Rattle.report_text.proofs.accepted.put_tree.Goals as goal

pub slice_bounds-needs-end : goal.slice_bounds-needs-end
slice_bounds-needs-end c = omega (arith, (tree_limits _ c.requires.marks_value).arcs)

pub put_audit-requires : goal.put_audit-requires
put_audit-requires c =
    let pre = c.requires in
    let put = c.put_cost-next.ensures in
    record {
      members_le_most_arcs = few_members _ _ pre.marks_value pre.proposed_len;
      at_in_bounds = omega (arith, pre, put.put.same_length, put.upper_bound);
    }

pub returns : goal.returns
returns c =
    let found = c.find_group-searched.ensures in
    let first = c.put_cost-next.ensures in
    let second = c.put_audit.ensures in record {
      put = tree_joined _ _ c.requires.proposed_len c.check_total-total.ensures found.answer_value found.group_value
          first.put second.put;
      upper_bound = omega (arith, first.upper_bound, second.upper_bound);
    }
