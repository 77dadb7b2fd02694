-- The level rule depends on a network's arcs, parents and members and on the arcs' amounts, and not on its costs; and
-- the bounds at which each arc gives out its cost are the needs.
use Prim.Native.Nat.{ℕ, zero, suc, ◌+◌, ◌≤◌}
use mathlib.Core.Path.{◌≡◌, refl, sym, ap, ◌∙◌}
use mathlib.Core.List.{List}
use native.Mathlib.Omega.{arith}
use lib.Dec.{eqb}
use Rattle.basics.specs.Sum.{pick}
use Rattle.game.specs.Network.{Network, need}
use Rattle.game.specs.Level.{unit, units, arcs_down, level}
use Rattle.game.specs.Inward.{of_children, amount_of}
use Rattle.basics.proofs.Sums.{In, in_last, in_more, sum_cong}
use Rattle.game.proofs.Below.{Rooted, sum_below_children}

-- the network with other costs
abbrev pub recosted : Network → (ℕ → ℕ) → Network
recosted n cost = record { arcs = n.arcs; parent = n.parent; member = n.member; cost = cost }

module _ (n : Network) (cost : ℕ → ℕ) (caps : List ℕ) where
  units_same : (k t : ℕ) (l : List ℕ) → units (recosted n cost) caps k t l ≡ units n caps k t l
  unfolding units
  units_same k zero l = refl
  units_same k (suc t) l = ap (unit n caps k) (units_same k t l)

  arcs_same : (f g : ℕ → ℕ) (k : ℕ) (l : List ℕ) → ((e : ℕ) → In k e → f e ≡ g e)
      → arcs_down (recosted n cost) caps f k l ≡ arcs_down n caps g k l
  unfolding arcs_down
  arcs_same f g zero l e = refl
  arcs_same f g (suc k) l e =
      arcs_same f g k (units (recosted n cost) caps (suc k) (f (suc k)) l) (λ a i. e a (in_more i))
      ∙ ap (arcs_down n caps g k)
      (units_same (suc k) (f (suc k)) l ∙ ap (λ (t : ℕ). units n caps (suc k) t l) (e (suc k) (in_last k)))

  pub level_same : (f g : ℕ → ℕ) → ((e : ℕ) → In n.arcs e → f e ≡ g e) → level (recosted n cost) caps f ≡ level n caps g
  level_same f g e = arcs_same f g n.arcs _ e

module _ (n : Network) (rooted : Rooted n) (bound : ℕ → ℕ)
    (is : (k : ℕ) → In n.arcs k → bound k ≡ need n k) where
  need_children : (k : ℕ) → In n.arcs k → bound k ≡ n.cost k + of_children n bound k
  need_children k i =
      is k i ∙ sum_below_children n rooted n.cost k i
      ∙ ap (λ (x : ℕ). n.cost k + x) (sum_cong n.arcs (λ u j. ap (pick (eqb (n.parent u) k)) (sym (is u j))))

  -- no arc's child arcs need more than the arc itself
  pub needs_grow : (k : ℕ) → In n.arcs k → of_children n bound k ≤ bound k
  needs_grow k i = omega (arith, need_children k i)

  pub amount_is_cost : (k : ℕ) → In n.arcs k → amount_of n bound k ≡ n.cost k
  amount_is_cost k i = omega (arith, need_children k i)
