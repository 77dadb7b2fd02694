use Rattle.test_lines.specs.Hex.{bytes_of}
use Rattle.test_lines.proofs.Copied.{Copied}
use Rattle.test_lines.proofs.hex.decode.Given as goal

abbrev pub invariant-loop-i : goal.invariant-loop-i
invariant-loop-i l = Copied (bytes_of l.s) l.initial.out l.n l.i l.out
