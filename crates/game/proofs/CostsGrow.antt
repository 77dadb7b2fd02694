-- Networks that differ in costs alone, the second nowhere cheaper: no arc's amount falls, whatever the floors.
use Prim.Native.Nat.{ℕ, ◌+◌, ◌≤◌}
use mathlib.Core.Path.{◌≡◌}
use mathlib.Core.Bool.{true, false}
use mathlib.Core.Logic.{⊎_elim}
use mathlib.Core.List.{List}
use native.Mathlib.Omega.{arith}
use Rattle.game.specs.Network.{Network, at_or_below, sum_below, need}
use Rattle.game.specs.Inward.{of_children, amount_of}
use Rattle.game.specs.Floors.{adjusted}
use Rattle.basics.proofs.Bools.{both, pick_both_le}
use Rattle.basics.proofs.Sums.{In, sum_mono}
use Rattle.game.proofs.Below.{Rooted, sum_below_children}
use Rattle.game.proofs.Inward.{from_leaves, children_add, children_mono}
use Rattle.game.proofs.Excess.{MembersEnd, no_children}
use Rattle.game.proofs.Adjusted.{adjusted_member, adjusted_elsewhere}
use Rattle.game.proofs.LevelCosts.{recosted}

module _ (n : Network) (rooted : Rooted n) (ends : MembersEnd n) (cost : ℕ → ℕ)
    (no_less : (k : ℕ) → In n.arcs k → n.cost k ≤ cost k) (floors : List ℕ) where
  abbrev dear : Network
  dear = recosted n cost

  need_grows : (k : ℕ) → need n k ≤ need dear k
  unfolding sum_below
  need_grows k = sum_mono n.arcs (λ v i. pick_both_le (at_or_below n k v) (no_less v i))

  -- an adjusted need grows by no more than the need
  module _ (k : ℕ) (i : In n.arcs k)
      (ih : (u : ℕ) → In n.arcs u → n.parent u ≡ k
      → adjusted dear floors u + need n u ≤ adjusted n floors u + need dear u) where
    -- of the child arcs together
    children_lag : of_children n (adjusted dear floors) k + of_children n (need n) k
        ≤ of_children n (adjusted n floors) k + of_children n (need dear) k
    children_lag =
        omega (
          arith,
          children_mono n (λ u. adjusted dear floors u + need n u) (λ u. adjusted n floors u + need dear u) k ih,
          children_add n (adjusted dear floors) (need n) k,
          children_add n (adjusted n floors) (need dear) k,
        )

    -- the arc's need grows by no less than their adjusted needs
    need_leads : of_children n (adjusted dear floors) k + need n k ≤ of_children n (adjusted n floors) k + need dear k
    need_leads =
        omega (
          arith,
          children_lag,
          no_less k i,
          sum_below_children n rooted n.cost k i,
          sum_below_children dear rooted cost k i,
        )

  adjusted_lag : (k : ℕ) → In n.arcs k → adjusted dear floors k + need n k ≤ adjusted n floors k + need dear k
  adjusted_lag =
      from_leaves n rooted (λ k. adjusted dear floors k + need n k ≤ adjusted n floors k + need dear k)
      (λ k i ih.
      ⊎_elim
      (λ (m : n.member k ≡ true).
      omega (
        arith,
        adjusted_member n rooted ends floors k i m,
        adjusted_member dear rooted ends floors k i m,
        need_grows k,
      ))
      (λ (m : n.member k ≡ false).
      omega (
        arith,
        adjusted_elsewhere n rooted ends floors k i m,
        adjusted_elsewhere dear rooted ends floors k i m,
        need_grows k,
        need_leads k i ih,
      ))
      (both (n.member k)))

  pub amount_grows : (k : ℕ) → In n.arcs k
      → amount_of n (adjusted n floors) k ≤ amount_of dear (adjusted dear floors) k
  amount_grows k i =
      ⊎_elim
      (λ (m : n.member k ≡ true).
      omega (
        arith,
        adjusted_member n rooted ends floors k i m,
        adjusted_member dear rooted ends floors k i m,
        no_children n ends (adjusted dear floors) k m,
        need_grows k,
      ))
      (λ (m : n.member k ≡ false).
      omega (
        arith,
        adjusted_elsewhere n rooted ends floors k i m,
        adjusted_elsewhere dear rooted ends floors k i m,
        need_leads k i (λ u j e. adjusted_lag u j),
      ))
      (both (n.member k))
