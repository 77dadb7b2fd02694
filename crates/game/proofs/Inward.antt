-- Induction from the leaves inward, sums over the children of a vertex, of a sum and ordered by child, and numbers by a
-- rule from the child arcs'.
use Prim.Native.Nat.{ℕ, zero, suc, ◌+◌, ◌≤◌, ◌<◌}
use mathlib.Core.Path.{◌≡◌, ap, ◌∙◌}
use native.Mathlib.Omega.{arith}
use borrow.Author.Tests.{eqb-true}
use lib.Dec.{eqb}
use Rattle.basics.specs.Sum.{pick}
use Rattle.game.specs.Network.{Network}
use Rattle.game.specs.Inward.{of_children, inward_within, inward}
use Rattle.basics.proofs.Bools.{pick_same, pick_ordered, pick_add}
use Rattle.basics.proofs.Sums.{In, sum_cong, sum_mono, sum_add}
use Rattle.game.proofs.Below.{Rooted, child_after}

module _ (n : Network) (rooted : Rooted n) where
  -- from the leaves inward: what holds of each vertex whose children have it holds of every vertex
  pub from_leaves : (P : ℕ → Type 0)
      → ((k : ℕ) → In n.arcs k → ((u : ℕ) → In n.arcs u → n.parent u ≡ k → P u) → P k)
      → (k : ℕ) → In n.arcs k → P k
  from_leaves P step k i = within (suc n.arcs) k i (omega arith)
    where
      within : (d k : ℕ) → In n.arcs k → n.arcs < k + d → P k
      within zero k i h = absurd (omega arith)
      within (suc d) k i h = step k i (λ u j e. within d u j (omega (arith, child_after n rooted k u j e)))

  module _ (rule : ℕ → ℕ → ℕ) where
    -- more steps change nothing where they reach the last arc
    within_enough : (f k : ℕ) → In n.arcs k → n.arcs < f + k
        → inward_within n rule f k ≡ inward_within n rule (suc f) k
    unfolding inward_within
    within_enough zero k i h = absurd (omega arith)
    within_enough (suc f) k i h =
        ap (rule k)
        (sum_cong n.arcs
        (λ u j.
        pick_same (eqb (n.parent u) k)
        (λ e. within_enough f u j (omega (arith, child_after n rooted k u j (eqb-true (n.parent u) k e))))))

    pub inward_is : (k : ℕ) → In n.arcs k → inward n rule k ≡ rule k (of_children n (inward n rule) k)
    unfolding inward_within
    inward_is k i = within_enough n.arcs k i (omega arith)

module _ (n : Network) where
  pub children_add : (f g : ℕ → ℕ) (k : ℕ) → of_children n (λ u. f u + g u) k ≡ of_children n f k + of_children n g k
  children_add f g k =
      sum_cong n.arcs (λ u i. pick_add (eqb (n.parent u) k) (f u) (g u))
      ∙ sum_add n.arcs (λ u. pick (eqb (n.parent u) k) (f u)) (λ u. pick (eqb (n.parent u) k) (g u))

  -- sums over the children of k, ordered by child
  pub children_mono : (f g : ℕ → ℕ) (k : ℕ) → ((u : ℕ) → In n.arcs u → n.parent u ≡ k → f u ≤ g u)
      → of_children n f k ≤ of_children n g k
  children_mono f g k le =
      sum_mono n.arcs (λ u i. pick_ordered (eqb (n.parent u) k) (λ e. le u i (eqb-true (n.parent u) k e)))
