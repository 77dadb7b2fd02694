use lib.ListN.{length}
use Rattle.basics.proofs.Filling.{Filling}
use Rattle.by_arc.specs.Shares.{share_of}
use Rattle.by_arc.proofs.shares.write_shares.Given as goal

abbrev pub invariant-loop-j : goal.invariant-loop-j
invariant-loop-j l = Filling (length l.vertices) (share_of l.vertices l.starts l.keys l.parts) l.shares l.j
