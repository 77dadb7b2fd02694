-- The vertices of an order by place, and a list written at one of them.
--
--   placed_at, placed_first, placed_later  a vertex stands at a place
--   placed_or_outside                      v stands in the order or does not
--   rising_at                              the vertex at a place, and its link
--   written, lower_kept                    a list after it is written at the vertex at a place
use Prim.Native.Nat.{ℕ, zero, suc, ◌≤◌, ◌<◌}
use mathlib.Core.Path.{◌≡◌, refl, subst}
use mathlib.Core.Logic.{◌⊎◌, inl, inr, ⊎_elim}
use mathlib.Core.List.{List, [], ◌∷◌}
use native.Mathlib.Decide.{ℕ_discrete}
use native.Mathlib.Omega.{arith}
use lib.ListN.{length, get_or, set}
use lib.Seq.{get_or-set_same, get_or-set_other}
use Rattle.limits.specs.Limits.{most_arcs}
use Rattle.key_passes.specs.Passes.{at, Rising, Outside}

-- v stands in the order
pub record Placed (order : List ℕ) (v : ℕ) : Type 0 where
  pub place : ℕ
  pub within : place < length order
  pub is : at order place ≡ v

pub placed_at : (order : List ℕ) (i : ℕ) → i < length order → Placed order (at order i)
placed_at order i h = record { place = i; within = h; is = refl }

-- the first entry, or one of the others
pub placed_first : (v : ℕ) (l : List ℕ) → Placed (v ∷ l) v
placed_first v l = placed_at (v ∷ l) 0 (omega arith)

pub placed_later : {v : ℕ} (w : ℕ) {l : List ℕ} → Placed l v → Placed (w ∷ l) v
placed_later w p = record { place = suc p.place; within = omega arith; is = p.is }

pub placed_or_outside : (l : List ℕ) (v : ℕ) → Placed l v ⊎ Outside l v
placed_or_outside [] v = inr (λ i h e. omega arith)
placed_or_outside (w ∷ l) v =
    elim (ℕ_discrete w v) [
      | yes e ↦ inl (subst (Placed (w ∷ l)) e (placed_first w l))
      | no d ↦ ⊎_elim (λ (p : Placed l v). inl (placed_later w p)) (λ (o : Outside l v). inr (later d o))
          (placed_or_outside l v)
    ]
  where
    later : (w ≡ v → ⊥) → Outside l v → Outside (w ∷ l) v
    later d o zero h e = d e
    later d o (suc i) h e = o i (omega arith) e

module _ {m : ℕ} {order links : List ℕ} (r : Rising m order links) (i : ℕ) (h : i < length order) where
  -- the vertex at place i, and its link
  pub rising_at : (0 < at order i) × (at order i ≤ m) × (at links (at order i) < at order i)
  rising_at = (r.first i h, r.last i h, r.lower i h)

  -- a list with one entry a vertex, written there
  pub written : {A : Type 0} → m ≤ most_arcs → (l : List A) (x none : A) → length l ≡ 1024
      → get_or (set l (at order i) x) (at order i) none ≡ x
  written few l x none e = get_or-set_same l (at order i) x none (omega (arith, r.last i h))

-- the entries of lower vertices
pub lower_kept : {A : Type 0} (order : List ℕ) (i : ℕ) (l : List A) (x none : A) (w : ℕ) → w < at order i
    → get_or (set l (at order i) x) w none ≡ get_or l w none
lower_kept order i l x none w d = get_or-set_other l (at order i) w x none (λ e. absurd (omega arith))
