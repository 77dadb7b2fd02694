-- Of the lists that the pass over the arcs is given: their entries for an arc, and bounds of needs and raised needs.
use Prim.Native.Nat.{ℕ, suc, ◌+◌, ◌*◌, ◌≤◌, ◌<◌}
use mathlib.Core.Path.{◌≡◌, refl, sym, ap, ◌∙◌}
use mathlib.Core.List.{List}
use native.Mathlib.Omega.{arith}
use lib.ListN.{length, get_or}
use Rattle.basics.specs.Sum.{list}
use Rattle.basics.proofs.Sums.{sum_bound}
use Rattle.basics.proofs.Lists.{list_length, list_at}
use Rattle.game.specs.Network.{Network, sum_below, need}
use Rattle.game.specs.Tree.{of_arc}
use Rattle.game.specs.ByArc.{user_count}
use Rattle.game.specs.Inward.{of_children}
use Rattle.game.specs.Margin.{raised}
use Rattle.game.proofs.SumBounds.{sum_below_le, children_le}
use Rattle.game.proofs.Inward.{children_mono}
use Rattle.game.proofs.Raised.{raised_limit}
use Rattle.limits.specs.Limits.{most_arcs, most_cost}
use Rattle.limits.specs.Inner.{most_whole}
use Rattle.tree.specs.Passes.{Sound, Costed, Listed, network_at}
use Rattle.tree.proofs.Bounds.{costs_bound}
use Rattle.margin.specs.Passes.{Measured, Given}

-- what f's list holds for arc k
pub entry_of : {l : List ℕ} (m : ℕ) (f : ℕ → ℕ) → l ≡ list m f → {k i : ℕ} → k ≤ m → k ≡ suc i → get_or l i 0 ≡ f k
entry_of m f e {k} {i} h next = ap (λ (l : List ℕ). get_or l i 0) e ∙ list_at f 0 m i (omega arith) ∙ ap f (sym next)

-- each arc's cost and a margin, for the most arcs
abbrev pub most_raised : ℕ
most_raised = most_arcs * (most_cost + most_whole)

pub given_of : {ps cs vs needs counts : List ℕ} → Sound ps → Costed ps cs → Listed ps vs
    → Measured ps cs vs needs counts → Given ps cs vs needs counts
given_of sound costed listed measured =
    record { sound = sound; costed = costed; listed = listed; measured = measured }

module _ {ps cs vs needs counts : List ℕ} (given : Given ps cs vs needs counts) where
  abbrev n : Network
  n = network_at ps cs vs

  pub needs_sized : length needs ≡ length ps
  needs_sized = ap length given.measured.needs_are ∙ list_length (need n) (length ps)

  pub counts_sized : length counts ≡ length ps
  counts_sized = ap length given.measured.counts_are ∙ list_length (user_count n) (length ps)

  pub need_at : {k i : ℕ} → k ≤ length ps → k ≡ suc i → get_or needs i 0 ≡ need n k
  need_at = entry_of (length ps) (need n) given.measured.needs_are

  pub count_at : {k i : ℕ} → k ≤ length ps → k ≡ suc i → get_or counts i 0 ≡ user_count n k
  count_at = entry_of (length ps) (user_count n) given.measured.counts_are

  pub need_fits : (i : ℕ) → i < length ps → get_or needs i 0 ≤ most_whole
  need_fits i h =
      omega (
        arith,
        need_at {k = suc i} (omega arith) refl,
        sum_below_le n n.cost (suc i),
        costs_bound ps cs given.sound given.costed,
      )

  -- the raised needs of a vertex's child arcs, together
  pub children_bound : (d v : ℕ) → d ≤ most_whole → v ≤ length ps → of_children n (raised n d) v ≤ most_raised
  children_bound d v limited h =
      let most : ℕ → ℕ = λ u. of_arc cs u + d in
      let rooted = given.sound.rising in
      omega (
        arith,
        children_mono n (raised n d) (sum_below n most) v (λ u i e. raised_limit n rooted d u i),
        children_le n rooted most v h,
        sum_bound (length ps) (most_cost + most_whole) {f = most} (λ u i. omega (arith, given.costed.limited u)),
        given.sound.few,
      )
