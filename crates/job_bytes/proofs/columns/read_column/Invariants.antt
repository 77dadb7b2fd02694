use Rattle.std.proofs.Common.{◌≡◌, ◌++◌, drop}
use Rattle.basics.specs.Sum.{entries}
use Rattle.job_bytes.specs.Format.{column}
use Rattle.job_bytes.proofs.columns.read_column.Given as goal

abbrev pub invariant-loop-i : goal.invariant-loop-i
invariant-loop-i g l =
    l.entry-items
    ≡ entries l.i (λ i. g.T.Entry.read (column l.bytes l.width l.at l.stride i)) ++ drop l.i l.initial.entry-items
