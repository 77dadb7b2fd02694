-- Where one list has more than another below an arc, it has more at some vertex, and below every arc on the way there.
use Prim.Native.Nat.{ℕ, zero, suc, ◌+◌, ◌<◌}
use mathlib.Core.Path.{◌≡◌, sym, subst}
use mathlib.Core.Bool.{true}
use mathlib.Core.Logic.{⊎_elim}
use native.Mathlib.Decide.{dec_lt, ℕ_discrete}
use native.Mathlib.Omega.{arith}
use borrow.Author.Tests.{eqb-true, ltb-true}
use lib.Dec.{eqb, ltb}
use Rattle.basics.specs.Sum.{pick, sum}
use Rattle.game.specs.Network.{Network, at_or_below, sum_below}
use Rattle.basics.proofs.Bools.{pick_yes, pick_pos}
use Rattle.basics.proofs.Sums.{In, Some, sum_more_some}
use Rattle.game.proofs.Below.{Rooted, child_after, below_self, below_trans, below_le, below_comparable}
use Rattle.game.proofs.Below.{below_cases, sum_below_children}
use Rattle.game.proofs.Groups.{child_below}

module _ (n : Network) (rooted : Rooted n) (x y : ℕ → ℕ) where
  pub record More (k : ℕ) : Type 0 where
    pub at : ℕ
    pub within : In n.arcs at
    pub below : at_or_below n k at ≡ true
    pub more : x at < y at
    pub on_the_way : (f : ℕ) → In n.arcs f → at_or_below n k f ≡ true → at_or_below n f at ≡ true
        → sum_below n x f < sum_below n y f

  -- of a vertex below a child u of k: what lies between is k itself, or lies between u and the vertex
  between : (k u f j : ℕ) → In n.arcs u → In n.arcs f → n.parent u ≡ k → at_or_below n u j ≡ true
      → at_or_below n k f ≡ true → at_or_below n f j ≡ true → (f ≡ k → ⊥) → at_or_below n u f ≡ true
  between k zero f j iu if e uj kf fj ne = absurd (omega arith)
  between k (suc u) f j iu if e uj kf fj ne =
      ⊎_elim
      (λ (a : at_or_below n (suc u) f ≡ true). a)
      (λ (a : at_or_below n f (suc u) ≡ true).
      ⊎_elim
      (λ (d : f ≡ suc u). subst (λ (v : ℕ). at_or_below n (suc u) v ≡ true) (sym d) (below_self n rooted (suc u)))
      (λ (b : at_or_below n f (n.parent (suc u)) ≡ true). absurd
      (ne (omega (arith, e, below_le n rooted f (n.parent (suc u)) b, below_le n rooted k f kf))))
      (below_cases n rooted f u a))
      (below_comparable n rooted (suc u) f j uj fj)

  -- d bounds how far the numbers go on after k
  descend : (d k : ℕ) → In n.arcs k → n.arcs < k + d → sum_below n x k < sum_below n y k → More k
  descend zero k i h l = absurd (omega arith)
  descend (suc d) k i h l =
      elim
      (dec_lt (x k) (y k)) [
        | yes own ↦ at_once own
        | no own ↦ on (omega (arith, own_x, own_y)) (λ u j c. descend d u j (omega (arith, c)))
      ]
    where
      own_x : sum_below n x k ≡ x k + sum n.arcs (λ u. pick (eqb (n.parent u) k) (sum_below n x u))
      own_x = sum_below_children n rooted x k i

      own_y : sum_below n y k ≡ y k + sum n.arcs (λ u. pick (eqb (n.parent u) k) (sum_below n y u))
      own_y = sum_below_children n rooted y k i

      at_once : x k < y k → More k
      at_once own =
          record {
            at = k;
            within = i;
            below = below_self n rooted k;
            more = own;
            on_the_way = λ f j kf fk.
                let e : k ≡ f = omega (arith, below_le n rooted k f kf, below_le n rooted f k fk) in
                subst (λ (v : ℕ). sum_below n x v < sum_below n y v) e l;
          }

      on : sum n.arcs (λ u. pick (eqb (n.parent u) k) (sum_below n x u))
          < sum n.arcs (λ u. pick (eqb (n.parent u) k) (sum_below n y u))
          → ((u : ℕ) → In n.arcs u → k < u → sum_below n x u < sum_below n y u → More u) → More k
      on c further =
          record {
            at = m.at;
            within = m.within;
            below = below_trans n rooted k u m.at (child_below n rooted k u s.within e) m.below;
            more = m.more;
            on_the_way = λ f j kf fa.
                elim (ℕ_discrete f k) [
                  | yes d ↦ subst (λ (v : ℕ). sum_below n x v < sum_below n y v) (sym d) l
                  | no d ↦ m.on_the_way f j (between k u f m.at s.within j e m.below kf fa d) fa
                ];
          }
        where
          s : Some n.arcs
              (λ u. ltb (pick (eqb (n.parent u) k) (sum_below n x u)) (pick (eqb (n.parent u) k) (sum_below n y u)))
          s =
              sum_more_some n.arcs (λ u. pick (eqb (n.parent u) k) (sum_below n x u))
              (λ u. pick (eqb (n.parent u) k) (sum_below n y u)) c

          u : ℕ
          u = s.which

          above : pick (eqb (n.parent u) k) (sum_below n x u) < pick (eqb (n.parent u) k) (sum_below n y u)
          above =
              ltb-true (pick (eqb (n.parent u) k) (sum_below n x u)) (pick (eqb (n.parent u) k) (sum_below n y u))
              s.passes

          p : (eqb (n.parent u) k ≡ true) × (0 < sum_below n y u)
          p = pick_pos (eqb (n.parent u) k) (sum_below n y u) (omega (arith, above))

          e : n.parent u ≡ k
          e = eqb-true (n.parent u) k p.0

          m : More u
          m =
              further u s.within (child_after n rooted k u s.within e)
              (omega (arith, above, pick_yes (sum_below n x u) p.0, pick_yes (sum_below n y u) p.0))

  pub has_more : (k : ℕ) → In n.arcs k → sum_below n x k < sum_below n y k → More k
  has_more k i l = descend (suc n.arcs) k i (omega arith) l
