use Rattle.std.proofs.Common.{◌≡◌, ◌-◌, length}
use Rattle.test_vectors.proofs.next_case.walked.Given as goal

-- the list keeps its length
abbrev pub invariant-loop-lists : goal.invariant-loop-lists
invariant-loop-lists l = length l.parents ≡ length l.initial.parents

-- the lists that are left
abbrev pub decreases-loop-lists : goal.decreases-loop-lists
decreases-loop-lists l = 1000 - l.lists
