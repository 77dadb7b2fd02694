-- An arc that nobody uses: nobody uses an arc below it, and where such arcs cost nothing it needs nothing.
use Prim.Native.Nat.{ℕ}
use mathlib.Core.Path.{◌≡◌, ◌∙◌}
use mathlib.Core.Bool.{false, true}
use Rattle.game.specs.Network.{Network, at_or_below, used, everyone, sum_below, need}
use Rattle.basics.proofs.Bools.{clash, not_so, and_both, and_first, and_second, pick_same, pick_zero}
use Rattle.basics.proofs.Sums.{sum_zero}
use Rattle.game.proofs.Below.{Rooted, below_trans}
use Rattle.game.proofs.Groups.{used_of, used_by}
use Rattle.game.proofs.Counted.{UnusedFree}

module _ (n : Network) (rooted : Rooted n) (k : ℕ) (unused : used n everyone k ≡ false) where
  pub unused_below : (e : ℕ) → at_or_below n k e ≡ true → used n everyone e ≡ false
  unused_below e below =
      not_so (used n everyone e)
      (λ u.
      let b = used_by n everyone e u in
      clash
      (used_of n {g = everyone} {k = k}
      (record {
        by = b.by;
        within = b.within;
        chosen = b.chosen;
        uses =
            and_both (and_first (n.member b.by) (at_or_below n e b.by) b.uses)
            (below_trans n rooted k e b.by below
            (and_second (n.member b.by) (at_or_below n e b.by) b.uses));
      }))
      unused)

  pub unused_need : UnusedFree n → need n k ≡ 0
  unfolding sum_below
  unused_need free =
      sum_zero n.arcs
      (λ e i.
      pick_same (at_or_below n k e) (λ b. free e i (unused_below e b)) ∙ pick_zero (at_or_below n k e))
