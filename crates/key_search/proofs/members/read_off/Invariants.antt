use Rattle.std.proofs.Common.{ℕ, ◌≡◌, ◌<◌}
use Rattle.key_passes.specs.Passes.{at, share_at}
use Rattle.key_search.proofs.members.read_off.Given as goal

abbrev pub invariant-loop-j : goal.invariant-loop-j
invariant-loop-j l = (k : ℕ) → k < l.j → at l.shares k ≡ share_at (at l.caps k) k (at l.keys (at l.vertices k))
