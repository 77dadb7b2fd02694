use Rattle.std.proofs.Common.{◌≡◌, ◌≤◌, length}
use Rattle.test_vectors.proofs.lines.take_part.Given as goal

-- the line keeps its room, and what is in it never outgrows that
abbrev pub invariant-loop-byte : goal.invariant-loop-byte
invariant-loop-byte g l = (length l.line ≡ length l.initial.line) × (l.n ≤ length l.line)
