-- A list in the core without negative shares passes the audit: no share is above the whole cost.
use Prim.Native.Nat.{ℕ, ◌≤◌, ◌<◌}
use mathlib.Core.Path.{◌≡◌, ap, ◌∙◌}
use mathlib.Core.List.{List, map}
use native.Mathlib.Omega.{arith}
use borrow.Author.Tests.{le-ltb}
use lib.ListN.{length, get_or, get_or-map, length-map}
use lib.IntN.{pos}
use Rattle.limits.specs.Limits.{most_share}
use Rattle.game.specs.Network.{Network, member_count}
use Rattle.game.specs.Tree.{Tree, network}
use Rattle.game.specs.Core.{Core}
use Rattle.basics.proofs.Sums.{term₀_le}
use Rattle.game.proofs.NaturalShares.{core_all}
use Rattle.answer_forms.specs.Answer.{accepted}
use Rattle.answers.specs.Checks.{tree_check, outside_share}
use Rattle.answers.specs.Audit.{audit_check, Passes}
use Rattle.answers.proofs.Accepted.{tree_accepted}
use Rattle.answers.proofs.Limits.{whole_bound}
use Rattle.answers.proofs.InRange.{in_range}
use Rattle.answers.proofs.AuditLaws.{audit_laws}

module _ (t : Tree) (ok : tree_check t ≡ accepted) (l : List ℕ) (sized : length l ≡ member_count (network t))
    (core : Core (network t) (map pos l)) where
  abbrev n : Network
  n = network t

  share_most : (j : ℕ) → j < member_count n → get_or l j 0 ≤ most_share
  share_most j h =
      omega (
        arith,
        core_all n l core,
        term₀_le (member_count n) j (λ i. get_or l i 0) h,
        whole_bound t (tree_accepted t ok),
      )

  proposed : audit_check t (map pos l) ≡ accepted
  proposed =
      rw ok
      (in_range outside_share (pos 0) (member_count n) (map pos l) (length-map l pos ∙ sized)
      (λ i h.
      ap outside_share (get_or-map pos l i 0)
      ∙ le-ltb most_share (get_or l i 0) (share_most i (omega (arith, length-map l pos, sized)))))

  pub core_passes : Passes t (map pos l)
  core_passes = (audit_laws t (map pos l) proposed).passes.1 (core.adds_up, core.no_group_more)
