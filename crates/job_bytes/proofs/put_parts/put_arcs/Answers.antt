use mathlib.Core.Path.{refl}
use native.Mathlib.Omega.{arith}
use Rattle.buffer.proofs.Listing.{listed_start, listed_on, listed_end}
use Rattle.job_bytes.specs.JobBytes.{rows}
use Rattle.job_bytes.proofs.Parts.{arc_rows_length}
use Rattle.job_bytes.proofs.put_parts.put_arcs.Goals as goal

pub loop-i-init : goal.loop-i-init
unfolding rows
loop-i-init c = listed_start _ _ _ _ _ c.requires.parents_in_bounds refl

pub loop-i-preserved : goal.loop-i-preserved
unfolding rows
loop-i-preserved c =
    let row = c.put_arc-next.ensures in listed_on _ _ _ _ _ c.requires.parents_in_bounds c.loop-i.invariant
    c.loop-i-test.true refl row.put (omega (arith, row.value))

pub returns : goal.returns
returns c =
    let put = listed_end _ _ _ _ _ c.requires.parents_in_bounds c.loop-i.invariant c.loop-i-test.false in
    let long = arc_rows_length c.args.parents.now c.args.fillers.now c.args.costs.now in
    record { put = put; value = omega (arith, put.ends, long) }
