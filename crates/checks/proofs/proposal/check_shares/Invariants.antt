use mathlib.Core.Path.{◌≡◌}
use lib.ListN.{drop}
use Rattle.answers.specs.Checks.{range_check, outside_share}
use Rattle.checks.proofs.proposal.check_shares.Given as goal

abbrev pub invariant-loop-j : goal.invariant-loop-j
invariant-loop-j l = range_check outside_share 0 l.proposal ≡ range_check outside_share l.j (drop l.j l.proposal)
