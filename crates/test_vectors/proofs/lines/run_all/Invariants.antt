use Rattle.std.proofs.Common.{◌≡◌, ◌≤◌, length}
use Rattle.test_vectors.proofs.lines.run_all.Given as goal

-- the line keeps its room, and what is in it never outgrows that
abbrev pub invariant-loop : goal.invariant-loop
invariant-loop g l = (length l.line ≡ length l.initial.line) × (l.n ≤ length l.line)
