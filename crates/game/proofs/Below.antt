-- At or below. Outside this file the definition stays shut; these laws serve.
--
--   from_source                                  induction from the source outward
--   below_self, below_trans, below_le            order
--   below_parent, below_cases                    one step up
--   below_comparable                             two arcs above one vertex
--   top_of                                       the arc from the source at or above a vertex
--   below_children                               v is k, or at or below one child of k, and of one only
--   sum_below_children, sum_from_source          sums by children, and over the arcs that leave the source
use Prim.Native.Nat.{ℕ, zero, suc, ◌+◌, ◌≤◌, ◌<◌}
use mathlib.Core.Path.{◌≡◌, refl, sym, ap, ◌∙◌, subst}
use mathlib.Core.Bool.{Bool, true, ◌||◌}
use mathlib.Core.Logic.{◌⊎◌, inl, inr, ⊎_elim}
use native.Mathlib.Nat.{le_refl, zero-add}
use native.Mathlib.Decide.{ℕ_discrete}
use native.Mathlib.Omega.{arith}
use borrow.Author.Tests.{eqb-true, eq-eqb, ne_eqb}
use lib.Dec.{eqb}
use Rattle.basics.specs.Sum.{pick, sum}
use Rattle.game.specs.Network.{Network, climb, at_or_below, sum_below}
use Rattle.basics.proofs.Bools.{or_first, or_second, or_cases, eqb_comm, pick_either, pick_no, pick_zero, pick_add}
use Rattle.basics.proofs.Bools.{pick_yes, pick_swap}
use Rattle.basics.proofs.Sums.{In, sum_cong, sum_add, sum_zero, sum_swap, sum_pick, sum_at}

-- every parent is numbered below its arc
abbrev pub Rooted : Network → Type 0
Rooted n = (v : ℕ) → n.parent (suc v) ≤ v

-- enough steps are as good as any
climb_enough : (p : ℕ → ℕ) → ((v : ℕ) → p (suc v) ≤ v) → (k f g v : ℕ) → v ≤ f → v ≤ g → climb p k f v ≡ climb p k g v
unfolding climb
climb_enough p low k zero zero v hf hg = refl
climb_enough p low k zero (suc g) zero hf hg = refl
climb_enough p low k zero (suc g) (suc v) hf hg = absurd (omega arith)
climb_enough p low k (suc f) zero zero hf hg = refl
climb_enough p low k (suc f) zero (suc v) hf hg = absurd (omega arith)
climb_enough p low k (suc f) (suc g) zero hf hg = refl
climb_enough p low k (suc f) (suc g) (suc v) hf hg =
    ap (λ (b : Bool). eqb k (suc v) || b)
    (climb_enough p low k f g (p (suc v)) (omega (arith, low v)) (omega (arith, low v)))

module _ (n : Network) (rooted : Rooted n) where
  -- from the source outward: what holds of the source, and of each vertex whose parent has it, holds of every vertex
  from_source_to : (P : ℕ → Type 0) → P 0 → ((v : ℕ) → P (n.parent (suc v)) → P (suc v)) → (f v : ℕ) → v ≤ f → P v
  from_source_to P base step zero zero h = base
  from_source_to P base step zero (suc v) h = absurd (omega arith)
  from_source_to P base step (suc f) zero h = base
  from_source_to P base step (suc f) (suc v) h =
      step v (from_source_to P base step f (n.parent (suc v)) (omega (arith, rooted v)))

  pub from_source : (P : ℕ → Type 0) → P 0 → ((v : ℕ) → P (n.parent (suc v)) → P (suc v)) → (v : ℕ) → P v
  from_source P base step v = from_source_to P base step v v (le_refl v)

  pub child_after : (k u : ℕ) → In n.arcs u → n.parent u ≡ k → k < u
  child_after k zero i e = absurd (omega arith)
  child_after k (suc u) i e = omega (arith, rooted u)

  pub below_source : (k : ℕ) → at_or_below n k 0 ≡ eqb k 0
  unfolding climb
  below_source k = refl

  pub below_step : (k v : ℕ) → at_or_below n k (suc v) ≡ (eqb k (suc v) || at_or_below n k (n.parent (suc v)))
  unfolding climb
  below_step k v =
      ap (λ (b : Bool). eqb k (suc v) || b)
      (climb_enough n.parent rooted k v (n.parent (suc v)) (n.parent (suc v)) (rooted v)
      (le_refl (n.parent (suc v))))

  pub below_self : (k : ℕ) → at_or_below n k k ≡ true
  unfolding climb
  below_self zero = refl
  below_self (suc k) = or_first (climb n.parent (suc k) k (n.parent (suc k))) (eq-eqb (suc k) (suc k) refl)

  -- at or below v's parent is at or below v
  pub below_parent : (k v : ℕ) → at_or_below n k (n.parent (suc v)) ≡ true → at_or_below n k (suc v) ≡ true
  below_parent k v h = below_step k v ∙ or_second (eqb k (suc v)) h

  pub below_cases : (k v : ℕ) → at_or_below n k (suc v) ≡ true → (k ≡ suc v) ⊎ (at_or_below n k (n.parent (suc v)) ≡ true)
  below_cases k v h =
      ⊎_elim
      (λ (e : eqb k (suc v) ≡ true). inl (eqb-true k (suc v) e))
      (λ (e : at_or_below n k (n.parent (suc v)) ≡ true). inr e)
      (or_cases (eqb k (suc v)) (at_or_below n k (n.parent (suc v))) (sym (below_step k v) ∙ h))

  pub below_le : (k v : ℕ) → at_or_below n k v ≡ true → k ≤ v
  below_le k =
      from_source (λ v. at_or_below n k v ≡ true → k ≤ v)
      (λ h. omega (arith, eqb-true k 0 (sym (below_source k) ∙ h)))
      (λ v ih h. ⊎_elim (λ (e : k ≡ suc v). omega arith)
      (λ (b : at_or_below n k (n.parent (suc v)) ≡ true). omega (arith, ih b, rooted v)) (below_cases k v h))

  pub below_trans : (a b v : ℕ) → at_or_below n a b ≡ true → at_or_below n b v ≡ true → at_or_below n a v ≡ true
  below_trans a b v ab =
      from_source (λ w. at_or_below n b w ≡ true → at_or_below n a w ≡ true)
      (λ h. subst (λ (w : ℕ). at_or_below n a w ≡ true) (eqb-true b 0 (sym (below_source b) ∙ h)) ab)
      (λ w ih h.
      ⊎_elim
      (λ (e : b ≡ suc w). subst (λ (u : ℕ). at_or_below n a u ≡ true) e ab)
      (λ (h' : at_or_below n b (n.parent (suc w)) ≡ true). below_parent a w (ih h'))
      (below_cases b w h))
      v

  -- of two arcs above one vertex, one is at or below the other
  pub below_comparable : (a b v : ℕ) → at_or_below n a v ≡ true → at_or_below n b v ≡ true
      → (at_or_below n a b ≡ true) ⊎ (at_or_below n b a ≡ true)
  below_comparable a b =
      from_source
      (λ v. at_or_below n a v ≡ true → at_or_below n b v ≡ true → (at_or_below n a b ≡ true) ⊎ (at_or_below n b a ≡ true))
      (λ ha hb. inl (subst (λ (w : ℕ). at_or_below n a w ≡ true) (sym (eqb-true b 0 (sym (below_source b) ∙ hb))) ha))
      (λ v ih ha hb.
      ⊎_elim
      (λ (e : a ≡ suc v). inr (subst (λ (w : ℕ). at_or_below n b w ≡ true) (sym e) hb))
      (λ (ha' : at_or_below n a (n.parent (suc v)) ≡ true).
      ⊎_elim
      (λ (e : b ≡ suc v). inl (subst (λ (w : ℕ). at_or_below n a w ≡ true) (sym e) ha))
      (λ (hb' : at_or_below n b (n.parent (suc v)) ≡ true). ih ha' hb')
      (below_cases b v hb))
      (below_cases a v ha))

  -- every vertex is at or below the source
  pub all_below_source : (v : ℕ) → at_or_below n 0 v ≡ true
  all_below_source = from_source (λ v. at_or_below n 0 v ≡ true) (below_self 0) (λ v ih. below_parent 0 v ih)

  -- the arc from the source at or above a vertex
  pub record Top (v : ℕ) : Type 0 where
    pub arc : ℕ
    pub within : In n.arcs arc
    pub leaves : n.parent arc ≡ 0
    pub above : at_or_below n arc v ≡ true

  pub top_of : (v : ℕ) → In n.arcs v → Top v
  top_of =
      from_source (λ v. In n.arcs v → Top v)
      (λ i. absurd (omega arith))
      (λ v ih i.
      elim (ℕ_discrete (n.parent (suc v)) 0) [
        | yes e ↦ record { arc = suc v; within = i; leaves = e; above = below_self (suc v) }
        | no e ↦
            let p = ih (omega (arith, rooted v)) in
            let on = below_parent p.arc v p.above in
            record { arc = p.arc; within = p.within; leaves = p.leaves; above = on }
      ])

  -- v itself, or at or below its parent, and never both
  pub below_pick : (k v x : ℕ)
      → pick (at_or_below n k (suc v)) x ≡ pick (eqb k (suc v)) x + pick (at_or_below n k (n.parent (suc v))) x
  below_pick k v x =
      ap (λ (b : Bool). pick b x) (below_step k v)
      ∙ pick_either (eqb k (suc v)) (at_or_below n k (n.parent (suc v))) x
      (λ e b. omega (arith, eqb-true k (suc v) e, below_le k (n.parent (suc v)) b, rooted v))

  -- the children of k, and of those the ones that v is at or below
  unfoldable pub child_sum : (k x v : ℕ) → ℕ
  child_sum k x v = sum n.arcs (λ u. pick (eqb (n.parent u) k) (pick (at_or_below n u v) x))

  child_sum_source : (k x : ℕ) → child_sum k x 0 ≡ 0
  unfolding child_sum
  child_sum_source k x =
      sum_zero n.arcs
      (λ u i.
      ap (λ (y : ℕ). pick (eqb (n.parent u) k) y)
      (pick_no x (below_source u ∙ ne_eqb u 0 (λ e. omega arith)))
      ∙ pick_zero (eqb (n.parent u) k))

  child_sum_step : (k x v : ℕ) → suc v ≤ n.arcs
      → child_sum k x (suc v) ≡ pick (eqb k (n.parent (suc v))) x + child_sum k x (n.parent (suc v))
  unfolding child_sum
  child_sum_step k x v h =
      sum_cong n.arcs
      (λ u i.
      ap (λ (y : ℕ). pick (eqb (n.parent u) k) y) (below_pick u v x)
      ∙ pick_add (eqb (n.parent u) k) (pick (eqb u (suc v)) x) (pick (at_or_below n u (n.parent (suc v))) x)
      ∙ ap (λ (y : ℕ). y + pick (eqb (n.parent u) k) (pick (at_or_below n u (n.parent (suc v))) x))
      (pick_swap (eqb (n.parent u) k) (eqb u (suc v)) x
      ∙ ap (λ (b : Bool). pick b (pick (eqb (n.parent u) k) x)) (eqb_comm u (suc v))))
      ∙ sum_add n.arcs (λ u. pick (eqb (suc v) u) (pick (eqb (n.parent u) k) x))
      (λ u. pick (eqb (n.parent u) k) (pick (at_or_below n u (n.parent (suc v))) x))
      ∙ ap (λ (y : ℕ). y + child_sum k x (n.parent (suc v)))
      (sum_at n.arcs (suc v) (λ u. pick (eqb (n.parent u) k) x) (omega arith)
      ∙ ap (λ (b : Bool). pick b x) (eqb_comm (n.parent (suc v)) k))

  -- v is at or below k exactly when it is k, or at or below just one of k's children
  pub below_children : (k x v : ℕ) → v ≤ n.arcs → pick (at_or_below n k v) x ≡ pick (eqb k v) x + child_sum k x v
  below_children k x =
      from_source (λ v. v ≤ n.arcs → pick (at_or_below n k v) x ≡ pick (eqb k v) x + child_sum k x v)
      (λ h. omega (arith, ap (λ (b : Bool). pick b x) (below_source k), child_sum_source k x))
      (λ v ih h. omega (arith, below_pick k v x, child_sum_step k x v h, ih (omega (arith, rooted v))))

  sum_below_split : (x : ℕ → ℕ) (k : ℕ)
      → sum_below n x k
      ≡ sum n.arcs (λ v. pick (eqb k v) (x v))
      + sum n.arcs (λ u. pick (eqb (n.parent u) k) (sum_below n x u))
  unfolding sum_below child_sum
  sum_below_split x k =
      sum_cong n.arcs (λ v i. below_children k (x v) v i.high)
      ∙ sum_add n.arcs (λ v. pick (eqb k v) (x v)) (λ v. child_sum k (x v) v)
      ∙ ap (λ (s : ℕ). sum n.arcs (λ v. pick (eqb k v) (x v)) + s)
      (sum_swap n.arcs n.arcs (λ v u. pick (eqb (n.parent u) k) (pick (at_or_below n u v) (x v)))
      ∙ sum_cong n.arcs (λ u i. sum_pick (eqb (n.parent u) k) n.arcs (λ v. pick (at_or_below n u v) (x v))))

  -- the sum at or below k: k's own amount and the sums of its children
  pub sum_below_children : (x : ℕ → ℕ) (k : ℕ) → In n.arcs k
      → sum_below n x k ≡ x k + sum n.arcs (λ u. pick (eqb (n.parent u) k) (sum_below n x u))
  sum_below_children x k i =
      sum_below_split x k
      ∙ ap (λ (s : ℕ). s + sum n.arcs (λ u. pick (eqb (n.parent u) k) (sum_below n x u))) (sum_at n.arcs k x i)

  -- the sum over all vertices: the sums of the arcs that leave the source
  pub sum_from_source : (x : ℕ → ℕ) → sum n.arcs x ≡ sum n.arcs (λ u. pick (eqb (n.parent u) 0) (sum_below n x u))
  unfolding sum_below
  sum_from_source x =
      sum_cong n.arcs (λ v i. sym (pick_yes (x v) (all_below_source v)))
      ∙ sum_below_split x 0
      ∙ ap (λ (s : ℕ). s + sum n.arcs (λ u. pick (eqb (n.parent u) 0) (sum_below n x u)))
      (sum_zero n.arcs {f = λ v. pick (eqb 0 v) (x v)} (λ v i. pick_no (x v) (ne_eqb 0 v (λ e. omega arith))))
      ∙ zero-add (sum n.arcs (λ u. pick (eqb (n.parent u) 0) (sum_below n x u)))
