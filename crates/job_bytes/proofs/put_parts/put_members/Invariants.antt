use lib.ListN.{length}
use Rattle.buffer.proofs.Listing.{Listed}
use Rattle.job_bytes.specs.Versions.{member_width}
use Rattle.job_bytes.proofs.Putting.{floorless}
use Rattle.job_bytes.proofs.put_parts.put_members.Given as goal

abbrev pub invariant-loop-j : goal.invariant-loop-j
invariant-loop-j l =
    Listed (floorless l.version l.caps l.proposals) (member_width l.version) (length l.caps) l.initial.out l.at l.out
    l.next l.j
