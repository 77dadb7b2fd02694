-- The certificate: amounts g with w v + g's of v's children ≤ cost v + g v bound what every group has of the weights w.
use Prim.Native.Nat.{ℕ, zero, suc, ◌+◌, ◌≤◌}
use mathlib.Core.Path.{◌≡◌, refl, sym, ap, ◌∙◌}
use mathlib.Core.Bool.{Bool, true, false, not, ◌&&◌, ◌||◌}
use mathlib.Core.Logic.{⊎_elim}
use native.Mathlib.Omega.{arith}
use borrow.Author.Tests.{eqb-true, eqb-false, ne_eqb}
use lib.Dec.{eqb}
use Rattle.basics.specs.Sum.{pick, sum}
use Rattle.game.specs.Network.{Network, used, group_cost}
use Rattle.basics.proofs.Bools.{both, and_both, or_first, or_second, pick_yes, pick_no, pick_zero, pick_add}
use Rattle.basics.proofs.Bools.{pick_swap, pick_le, pick_both_le}
use Rattle.basics.proofs.Sums.{In, sum_cong, sum_add, sum_mono, sum_swap, sum_pick, sum_at, sum_zero}
use Rattle.game.proofs.Below.{Rooted, below_self}
use Rattle.game.proofs.Groups.{used_of, used_child}

-- where a then b: a's amount and that of b without a are part of b's
pick_part : (a b : Bool) (x : ℕ) → (a ≡ true → b ≡ true) → pick a x + pick (b && not a) x ≤ pick b x
pick_part true b x h = rw (h refl) (omega arith)
pick_part false true x h = omega arith
pick_part false false x h = omega arith

module _ (n : Network) where
  -- what the arcs from v have of g
  abbrev pub children : (ℕ → ℕ) → ℕ → ℕ
  children g v = sum n.arcs (λ u. pick (eqb (n.parent u) v) (g u))

  -- arc u leaves the source, or its parent's arc passes the test
  abbrev pub top : (ℕ → Bool) → ℕ → Bool
  top s u = eqb (n.parent u) 0 || s (n.parent u)

  -- a weight of 0 at each vertex that is no member
  abbrev pub OfMembers : (ℕ → ℕ) → Type 0
  OfMembers w = (v : ℕ) → In n.arcs v → n.member v ≡ false → w v ≡ 0

module _ (n : Network) (rooted : Rooted n) where
  pub parent_in : (u : ℕ) → In n.arcs u → (n.parent u ≡ 0 → ⊥) → In n.arcs (n.parent u)
  parent_in zero i h = absurd (omega arith)
  parent_in (suc u) i h = omega (arith, rooted u)

  -- over the vertices that pass a test, what their children have: what each arc has whose parent passes it
  pub children_over : (s : ℕ → Bool) (g : ℕ → ℕ)
      → sum n.arcs (λ v. pick (s v) (children n g v)) + children n g 0 ≡ sum n.arcs (λ u. pick (top n s u) (g u))
  children_over s g =
      ap (λ (x : ℕ). x + children n g 0)
      (sum_cong n.arcs (λ v i. sym (sum_pick (s v) n.arcs (λ u. pick (eqb (n.parent u) v) (g u))))
      ∙ sum_swap n.arcs n.arcs (λ v u. pick (s v) (pick (eqb (n.parent u) v) (g u))))
      ∙ sym
      (sum_add n.arcs (λ u. sum n.arcs (λ v. pick (s v) (pick (eqb (n.parent u) v) (g u))))
      (λ u. pick (eqb (n.parent u) 0) (g u)))
      ∙ sum_cong n.arcs (λ u i. one u i)
    where
      inner : (u : ℕ) → ℕ
      inner u = sum n.arcs (λ v. pick (s v) (pick (eqb (n.parent u) v) (g u)))

      at_parent : (u : ℕ) → In n.arcs (n.parent u) → inner u ≡ pick (s (n.parent u)) (g u)
      at_parent u i =
          sum_cong n.arcs (λ v j. pick_swap (s v) (eqb (n.parent u) v) (g u))
          ∙ sum_at n.arcs (n.parent u) (λ v. pick (s v) (g u)) i

      at_source : (u : ℕ) → n.parent u ≡ 0 → inner u ≡ 0
      at_source u e =
          sum_zero n.arcs
          (λ v i.
          ap (pick (s v)) (ap (λ (p : ℕ). pick (eqb p v) (g u)) e ∙ pick_no (g u) (ne_eqb 0 v (λ d. omega arith)))
          ∙ pick_zero (s v))

      one : (u : ℕ) → In n.arcs u → inner u + pick (eqb (n.parent u) 0) (g u) ≡ pick (top n s u) (g u)
      one u i =
          ⊎_elim
          (λ (e : eqb (n.parent u) 0 ≡ true). rw e (omega (arith, at_source u (eqb-true (n.parent u) 0 e))))
          (λ (e : eqb (n.parent u) 0 ≡ false). rw e
          (omega (arith, at_parent u (parent_in u i (eqb-false (n.parent u) 0 e)))))
          (both (eqb (n.parent u) 0))

  -- a used arc leaves the source, or its parent's arc is used
  used_top : (s : ℕ → Bool) (u : ℕ) → In n.arcs u → used n s u ≡ true → top n (used n s) u ≡ true
  used_top s u i h =
      ⊎_elim
      (λ (e : eqb (n.parent u) 0 ≡ true). or_first (used n s (n.parent u)) e)
      (λ (e : eqb (n.parent u) 0 ≡ false). or_second (eqb (n.parent u) 0)
      (used_child n rooted s (n.parent u) u i refl h))
      (both (eqb (n.parent u) 0))

  module _ (w g : ℕ → ℕ) (of_members : OfMembers n w)
      (bounded : (v : ℕ) → In n.arcs v → w v + children n g v ≤ n.cost v + g v) where
    -- what a group lacks: the amounts of the arcs that it does not use though it could go on to them
    abbrev lacking : (ℕ → Bool) → ℕ
    lacking s = sum n.arcs (λ u. pick (top n (used n s) u && not (used n s u)) (g u))

    own_used : (s : ℕ → Bool) (v : ℕ) → In n.arcs v → pick (s v) (w v) ≤ pick (used n s v) (w v)
    own_used s v i =
        ⊎_elim
        (λ (m : n.member v ≡ true).
        ⊎_elim
        (λ (c : s v ≡ true).
        omega (
          arith,
          pick_yes (w v) c,
          pick_yes (w v)
              (used_of n {g = s} {k = v}
              (record { by = v; within = i; chosen = c; uses = and_both m (below_self n rooted v) })),
        ))
        (λ (c : s v ≡ false). omega (arith, pick_no (w v) c))
        (both (s v)))
        (λ (m : n.member v ≡ false). omega (arith, of_members v i m, pick_le (s v) (w v)))
        (both (n.member v))

    pub certificate : (s : ℕ → Bool)
        → sum n.arcs (λ v. pick (s v) (w v)) + lacking s ≤ group_cost n s + children n g 0
    unfolding group_cost
    certificate s =
        omega (
          arith,
          sum_mono n.arcs {f = λ v. pick (s v) (w v)} {g = λ v. pick (used n s v) (w v)} (λ v i. own_used s v i),
          sum_mono
              n.arcs {f = λ v. pick (used n s v) (w v + children n g v)}
              {g = λ v. pick (used n s v) (n.cost v + g v)}
              (λ v i. pick_both_le (used n s v) (bounded v i)),
          split w (children n g),
          split n.cost g,
          sum_mono
              n.arcs {f = λ u. pick (used n s u) (g u) + pick (top n (used n s) u && not (used n s u)) (g u)}
              {g = λ u. pick (top n (used n s) u) (g u)}
              (λ u i. pick_part (used n s u) (top n (used n s) u) (g u) (used_top s u i)),
          sum_add n.arcs (λ u. pick (used n s u) (g u)) (λ u. pick (top n (used n s) u && not (used n s u)) (g u)),
          children_over (used n s) g,
        )
      where
        split : (x y : ℕ → ℕ)
            → sum n.arcs (λ v. pick (used n s v) (x v + y v))
            ≡ sum n.arcs (λ v. pick (used n s v) (x v)) + sum n.arcs (λ v. pick (used n s v) (y v))
        split x y =
            sum_cong n.arcs (λ v i. pick_add (used n s v) (x v) (y v))
            ∙ sum_add n.arcs (λ v. pick (used n s v) (x v)) (λ v. pick (used n s v) (y v))
