use Rattle.std.proofs.Common.{arith, ap, ◌∙◌, rules}
use Rattle.std.proofs.Math.Nat.{pow-le-pow_right}
use Rattle.basics.specs.Sum.{entries}
use Rattle.job_bytes.proofs.Entries.{entries_more}
use Rattle.job_bytes.proofs.columns.read_column.Goals as goal

pub loop-i-init : goal.loop-i-init
unfolding entries
loop-i-init g c = search rules

pub of_number-requires : goal.of_number-requires
of_number-requires g c =
    omega (arith, c.number_at.ensures.upper_bound, pow-le-pow_right {n = 256} (omega arith) c.requires.width_bound)

pub loop-i-preserved : goal.loop-i-preserved
loop-i-preserved g c =
    let entry = c.of_number.ensures ∙ ap g.T.Entry.read c.number_at.ensures.value in
    rw c.loop-i.invariant (entries_more _ _ _ _ c.loop-i-test.true entry)
