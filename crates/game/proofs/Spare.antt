-- Amounts that add up to the whole cost and meet every need: every group has at most its cost, less what is spare at
-- the arcs that it does not use though it could go on to them.
use Prim.Native.Nat.{ℕ, ◌+◌, ◌-◌, ◌≤◌}
use mathlib.Core.Path.{◌≡◌, sym, ap, ◌∙◌}
use mathlib.Core.Bool.{Bool, not, ◌&&◌}
use native.Mathlib.Omega.{arith}
use lib.Dec.{eqb}
use Rattle.basics.specs.Sum.{pick, sum}
use Rattle.game.specs.Network.{Network, used, group_cost, sum_below, need, whole_cost}
use Rattle.basics.proofs.Bools.{pick_add}
use Rattle.basics.proofs.Sums.{In, sum_cong, sum_add}
use Rattle.game.proofs.Below.{Rooted, sum_below_children, sum_from_source}
use Rattle.game.proofs.Certificate.{children, top, OfMembers, certificate}

-- what arc k's users have beyond its need
abbrev pub spare : Network → (ℕ → ℕ) → ℕ → ℕ
spare n y k = sum_below n y k - need n k

module _ (n : Network) (rooted : Rooted n) (y : ℕ → ℕ) (of_members : OfMembers n y)
    (all : sum n.arcs y ≡ whole_cost n) (enough : (k : ℕ) → In n.arcs k → need n k ≤ sum_below n y k) where
  -- over the children of a vertex
  spare_children : (v : ℕ) → children n (spare n y) v + children n (need n) v ≡ children n (sum_below n y) v
  spare_children v =
      sym (sum_add n.arcs (λ u. pick (eqb (n.parent u) v) (spare n y u))
      (λ u. pick (eqb (n.parent u) v) (need n u)))
      ∙ sum_cong n.arcs
      (λ u i.
      sym (pick_add (eqb (n.parent u) v) (spare n y u) (need n u))
      ∙ ap (pick (eqb (n.parent u) v)) (omega (arith, enough u i)))

  bounded : (v : ℕ) → In n.arcs v → y v + children n (spare n y) v ≤ n.cost v + spare n y v
  bounded v i =
      omega (
        arith,
        spare_children v,
        enough v i,
        sum_below_children n rooted y v i,
        sum_below_children n rooted n.cost v i,
      )

  -- nothing is spare over all
  spare_none : children n (spare n y) 0 ≡ 0
  unfolding whole_cost
  spare_none =
      omega (arith, spare_children 0, sum_from_source n rooted y, sum_from_source n rooted n.cost, all)

  pub spare_bound : (s : ℕ → Bool)
      → sum n.arcs (λ v. pick (s v) (y v))
      + sum n.arcs (λ u. pick (top n (used n s) u && not (used n s u)) (spare n y u))
      ≤ group_cost n s
  spare_bound s = omega (arith, certificate n rooted y (spare n y) of_members bounded s, spare_none)
