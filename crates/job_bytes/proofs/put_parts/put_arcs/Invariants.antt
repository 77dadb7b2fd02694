use Prim.Native.Nat.{ℕ}
use lib.ListN.{length, get_or}
use Rattle.buffer.proofs.Listing.{Listed}
use Rattle.job_bytes.specs.JobBytes.{rows, arc_row}
use Rattle.job_bytes.proofs.put_parts.put_arcs.Given as goal

abbrev pub invariant-loop-i : goal.invariant-loop-i
invariant-loop-i l =
    let row = λ (i : ℕ). arc_row (get_or l.parents i 0) (get_or l.fillers i 0) (get_or l.costs i 0) in
    Listed (rows row) 8 (length l.parents) l.initial.out l.at l.out l.next l.i
