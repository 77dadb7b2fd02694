use native.Mathlib.Omega.{arith}
use Rattle.basics.proofs.Lists.{entries_length, entries_part}
use Rattle.job_bytes.specs.Format.{parent_at}
use Rattle.job_checks.specs.JobCheck.{marks_of}
use Rattle.job_checks.proofs.Counted.{too_many}
use Rattle.job_checks.proofs.values.count_members.Goals as goal

pub returns-then-arcs-gt-MOST_ARCS : goal.returns-then-arcs-gt-MOST_ARCS
returns-then-arcs-gt-MOST_ARCS c =
    let args = c.args in
    let rows = entries_length (parent_at args.bytes.now args.offset) args.arcs in
    rw (c.at.ensures.reason_value, c.at.ensures.place_value)
    (too_many _ (omega (arith, c.if-arcs-gt-MOST_ARCS.true, rows)))

pub returns-in-One : goal.returns-in-One
unfolding marks_of
returns-in-One c =
    let parents = entries_part _ _ _ c.read_column.ensures in
    let costs = entries_part _ _ _ c.read_column-2.ensures in
    rw c.in-One.is (rw (parents, costs) at c.dead_end_members.ensures)

pub returns-in-Two : goal.returns-in-Two
unfolding marks_of
returns-in-Two c =
    let args = c.args in
    let parents = entries_part _ _ _ c.read_column.ensures in
    let costs = entries_part _ _ _ c.read_column-2.ensures in
    let rows = entries_length (parent_at args.bytes.now args.offset) args.arcs in
    rw c.in-Two.is (rw rows at (rw (parents, costs) at c.marked_members.ensures))
