-- There is an excess for every weight, and none is above the weights at or below its arc.
use Prim.Native.Nat.{ℕ, zero, suc, ◌+◌, ◌-◌, ◌≤◌, ◌<◌}
use mathlib.Core.Path.{◌≡◌, sym, ap, ◌∙◌}
use mathlib.Core.Bool.{true, false}
use mathlib.Core.Logic.{⊎_elim}
use native.Mathlib.Omega.{arith}
use borrow.Author.Tests.{eqb-true}
use lib.Dec.{eqb}
use Rattle.basics.specs.Sum.{pick, sum}
use Rattle.game.specs.Network.{Network, sum_below}
use Rattle.basics.proofs.Bools.{both, pick_no, pick_both_le}
use Rattle.basics.proofs.Sums.{In, sum_cong, sum_mono}
use Rattle.game.proofs.Below.{Rooted, child_after, sum_below_children}
use Rattle.game.proofs.SumBounds.{children_le}
use Rattle.game.proofs.Certificate.{children}
use Rattle.game.proofs.Excess.{Excess}

-- the excess of arc v from the arcs below it, the first argument bounding how far they go
climb_down : Network → (ℕ → ℕ) → ℕ → ℕ → ℕ
climb_down n w zero v = 0
climb_down n w (suc d) v = (w v + sum n.arcs (λ u. pick (eqb (n.parent u) v) (climb_down n w d u))) - n.cost v

pub excess_of : Network → (ℕ → ℕ) → ℕ → ℕ
excess_of n w v = climb_down n w (suc n.arcs) v

module _ (n : Network) (rooted : Rooted n) (w : ℕ → ℕ) where
  -- bounds that reach far enough are as good as any
  far_enough : (d e v : ℕ) → In n.arcs v → n.arcs < v + d → n.arcs < v + e
      → climb_down n w d v ≡ climb_down n w e v
  unfolding climb_down
  far_enough zero e v i hd he = absurd (omega arith)
  far_enough (suc d) zero v i hd he = absurd (omega arith)
  far_enough (suc d) (suc e) v i hd he =
      ap (λ (s : ℕ). (w v + s) - n.cost v)
      (sum_cong n.arcs (λ u j. at_child u j (λ c. far_enough d e u j (omega (arith, c)) (omega (arith, c)))))
    where
      at_child : (u : ℕ) → In n.arcs u → (v < u → climb_down n w d u ≡ climb_down n w e u)
          → pick (eqb (n.parent u) v) (climb_down n w d u) ≡ pick (eqb (n.parent u) v) (climb_down n w e u)
      at_child u j h =
          ⊎_elim
          (λ (p : eqb (n.parent u) v ≡ true). ap (pick (eqb (n.parent u) v))
          (h (child_after n rooted v u j (eqb-true (n.parent u) v p))))
          (λ (p : eqb (n.parent u) v ≡ false). pick_no (climb_down n w d u) p ∙ sym (pick_no (climb_down n w e u) p))
          (both (eqb (n.parent u) v))

  pub excess_of_lem : Excess n w (excess_of n w)
  unfolding excess_of climb_down
  excess_of_lem v i =
      ap (λ (s : ℕ). (w v + s) - n.cost v)
      (sum_cong n.arcs
      (λ u j. ap (pick (eqb (n.parent u) v))
      (far_enough n.arcs (suc n.arcs) u j (omega arith) (omega arith))))

  module _ (f : ℕ → ℕ) (excess : Excess n w f) where
    below_weights : (d v : ℕ) → In n.arcs v → n.arcs < v + d → f v ≤ sum_below n w v
    below_weights zero v i h = absurd (omega arith)
    below_weights (suc d) v i h =
        omega (
          arith,
          excess v i,
          sum_below_children n rooted w v i,
          sum_mono
              n.arcs {f = λ u. pick (eqb (n.parent u) v) (f u)}
              {g = λ u. pick (eqb (n.parent u) v) (sum_below n w u)}
              (λ u j. at_child u j (λ c. below_weights d u j (omega (arith, c)))),
        )
      where
        at_child : (u : ℕ) → In n.arcs u → (v < u → f u ≤ sum_below n w u)
            → pick (eqb (n.parent u) v) (f u) ≤ pick (eqb (n.parent u) v) (sum_below n w u)
        at_child u j k =
            ⊎_elim
            (λ (p : eqb (n.parent u) v ≡ true). pick_both_le (eqb (n.parent u) v)
            (k (child_after n rooted v u j (eqb-true (n.parent u) v p))))
            (λ (p : eqb (n.parent u) v ≡ false). omega (arith, pick_no (f u) p))
            (both (eqb (n.parent u) v))

    -- what the children of a vertex exceed by is at most all weights
    pub excess_le : (v : ℕ) → v ≤ n.arcs → children n f v ≤ sum n.arcs w
    excess_le v h = omega (arith, at_most v, children_le n rooted w v h)
      where
        at_most : (v : ℕ) → children n f v ≤ children n (sum_below n w) v
        at_most v =
            sum_mono n.arcs
            (λ u j. pick_both_le (eqb (n.parent u) v) (below_weights (suc n.arcs) u j (omega arith)))
