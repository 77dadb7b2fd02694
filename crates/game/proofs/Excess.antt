-- The excess of each arc, what its users' weights exceed its cost by, and the group of the active members: it has
-- exactly the greatest excess over its own cost, and it is part of every group that has as much.
use Prim.Native.Nat.{ℕ, zero, suc, ◌+◌, ◌-◌, ◌≤◌, ◌<◌}
use mathlib.Core.Path.{◌≡◌, sym, ap, ◌∙◌}
use mathlib.Core.Bool.{Bool, true, false, not, ◌&&◌}
use mathlib.Core.Logic.{⊎_elim}
use native.Mathlib.Decide.{dec_lt}
use native.Mathlib.Omega.{arith}
use borrow.Author.Tests.{eqb-true, eqb-false, ltb-true, lt-ltb}
use lib.Dec.{eqb, ltb}
use Rattle.basics.specs.Sum.{pick, sum, some}
use Rattle.game.specs.Network.{Network, at_or_below, used, group_cost}
use Rattle.basics.proofs.Bools.{both, clash, not_so, same_test, and_both, and_first, and_second, or_first, or_second}
use Rattle.basics.proofs.Bools.{or_cases, pick_yes, pick_no, pick_add, pick_zero, pick_pos}
use Rattle.basics.proofs.Sums.{In, sum_cong, sum_add, sum_zero, term_le, sum_pos, some_of}
use Rattle.game.proofs.Below.{Rooted, from_source, below_self, below_cases, below_source, below_le, child_after}
use Rattle.game.proofs.Groups.{used_of, used_by, used_child}
use Rattle.game.proofs.Users.{users_of_end}
use Rattle.game.proofs.Certificate.{children, top, OfMembers, certificate, children_over, parent_in}

-- the excess of each arc, from the arcs below it
abbrev pub Excess : Network → (ℕ → ℕ) → (ℕ → ℕ) → Type 0
Excess n w f = (v : ℕ) → In n.arcs v → f v ≡ (w v + children n f v) - n.cost v

-- the vertices that are active: with an excess, and each above them too
abbrev pub Active : Network → (ℕ → ℕ) → (ℕ → Bool) → Type 0
Active n f act = (v : ℕ) → In n.arcs v → act v ≡ (ltb 0 (f v) && top n act v)

-- no member has a child
abbrev pub MembersEnd : Network → Type 0
MembersEnd n = (v : ℕ) → n.member v ≡ true → some n.arcs (λ u. eqb (n.parent u) v) ≡ false

-- so the arcs from it have nothing
pub no_children : (n : Network) → MembersEnd n → (g : ℕ → ℕ) (v : ℕ) → n.member v ≡ true → children n g v ≡ 0
no_children n end g v m =
    sum_zero n.arcs
    (λ u i. pick_no (g u)
    (not_so (eqb (n.parent u) v) (λ e. clash (some_of n.arcs u (λ w. eqb (n.parent w) v) i e) (end v m))))

module _ (n : Network) (rooted : Rooted n) (w f : ℕ → ℕ) (act : ℕ → Bool) (of_members : OfMembers n w)
    (excess : Excess n w f) (active : Active n f act) where
  bounded : (v : ℕ) → In n.arcs v → w v + children n f v ≤ n.cost v + f v
  bounded v i = omega (arith, excess v i)

  -- no group has more than its cost and the excess of all arcs that leave the source
  pub excess_bound : (s : ℕ → Bool) → sum n.arcs (λ v. pick (s v) (w v)) ≤ group_cost n s + children n f 0
  excess_bound s = omega (arith, certificate n rooted w f of_members bounded s)

  pub some_excess : (v : ℕ) → In n.arcs v → act v ≡ true → 0 < f v
  some_excess v i a = ltb-true 0 (f v) (and_first (ltb 0 (f v)) (top n act v) (sym (active v i) ∙ a))

  act_top : (v : ℕ) → In n.arcs v → act v ≡ true → top n act v ≡ true
  act_top v i a = and_second (ltb 0 (f v)) (top n act v) (sym (active v i) ∙ a)

  act_of : (v : ℕ) → In n.arcs v → 0 < f v → top n act v ≡ true → act v ≡ true
  act_of v i h t = active v i ∙ and_both (lt-ltb 0 (f v) h) t

  -- whatever is above an active vertex is active
  act_above : (v u : ℕ) → 0 < v → u ≤ n.arcs → act u ≡ true → at_or_below n v u ≡ true → act v ≡ true
  act_above v u pos =
      from_source n rooted (λ u. u ≤ n.arcs → act u ≡ true → at_or_below n v u ≡ true → act v ≡ true)
      (λ h a b. absurd (omega (arith, eqb-true v 0 (sym (below_source n rooted v) ∙ b))))
      (λ u ih h a b.
      ⊎_elim
      (λ (e : v ≡ suc u). ap act e ∙ a)
      (λ (b' : at_or_below n v (n.parent (suc u)) ≡ true).
      ⊎_elim
      (λ (e : eqb (n.parent (suc u)) 0 ≡ true).
      absurd (omega (arith, below_le n rooted v (n.parent (suc u)) b', eqb-true (n.parent (suc u)) 0 e)))
      (λ (t : act (n.parent (suc u)) ≡ true). ih (omega (arith, rooted u)) t b')
      (or_cases (eqb (n.parent (suc u)) 0) (act (n.parent (suc u))) (act_top (suc u) (omega arith) a)))
      (below_cases n rooted v u b))
      u

  -- an active member uses its arc
  act_own : (v : ℕ) → In n.arcs v → 0 < w v → act v ≡ true → used n act v ≡ true
  act_own v i h a =
      ⊎_elim
      (λ (m : n.member v ≡ true). used_of n
      (record { by = v; within = i; chosen = a; uses = and_both m (below_self n rooted v) }))
      (λ (m : n.member v ≡ false). absurd (omega (arith, of_members v i m)))
      (both (n.member v))

  -- an active vertex has an active member at or below it; d bounds how far the numbers go on after v
  act_used : (d v : ℕ) → In n.arcs v → n.arcs < v + d → act v ≡ true → used n act v ≡ true
  act_used zero v i h a = absurd (omega arith)
  act_used (suc d) v i h a =
      elim (dec_lt 0 (w v)) [
        | yes l ↦ act_own v i l a
        | no l ↦
            let s = sum_pos n.arcs (λ u. pick (eqb (n.parent u) v) (f u))
            (omega (arith, some_excess v i a, excess v i)) in
            let u = s.which in
            let p = pick_pos (eqb (n.parent u) v) (f u) (ltb-true 0 (pick (eqb (n.parent u) v) (f u)) s.passes) in
            let e = eqb-true (n.parent u) v p.0 in
            used_child n rooted act v u s.within e
            (act_used d u s.within (omega (arith, child_after n rooted v u s.within e))
            (act_of u s.within p.1 (or_second (eqb (n.parent u) 0) (ap act e ∙ a))))
      ]

  -- the arcs that the active members use are those of the active vertices
  used_act : (v : ℕ) → In n.arcs v → used n act v ≡ act v
  used_act v i =
      same_test (used n act v) (act v)
      (λ h.
      let b = used_by n act v h in
      act_above v b.by i.low b.within.high b.chosen
      (and_second (n.member b.by) (at_or_below n v b.by) b.uses))
      (λ a. act_used (n.arcs + 1) v i (omega arith) a)

  -- the active members have their cost and all the excess of the arcs that leave the source
  pub active_exact : sum n.arcs (λ v. pick (act v) (w v)) ≡ group_cost n act + children n f 0
  unfolding group_cost
  active_exact =
      omega (
        arith,
        sum_cong n.arcs {f = λ v. pick (act v) (w v + children n f v)} {g = λ v. pick (act v) (n.cost v + f v)}
            (λ v i. exact v i),
        split w (children n f),
        split n.cost f,
        sum_cong n.arcs {f = λ v. pick (act v) (n.cost v)} {g = λ v. pick (used n act v) (n.cost v)}
            (λ v i. ap (λ (b : Bool). pick b (n.cost v)) (sym (used_act v i))),
        sum_cong n.arcs {f = λ u. pick (top n act u) (f u)} {g = λ u. pick (act u) (f u)} (λ u i. gone u i),
        children_over n rooted act f,
      )
    where
      split : (x y : ℕ → ℕ)
          → sum n.arcs (λ v. pick (act v) (x v + y v))
          ≡ sum n.arcs (λ v. pick (act v) (x v)) + sum n.arcs (λ v. pick (act v) (y v))
      split x y =
          sum_cong n.arcs (λ v i. pick_add (act v) (x v) (y v))
          ∙ sum_add n.arcs (λ v. pick (act v) (x v)) (λ v. pick (act v) (y v))

      exact : (v : ℕ) → In n.arcs v → pick (act v) (w v + children n f v) ≡ pick (act v) (n.cost v + f v)
      exact v i =
          ⊎_elim
          (λ (a : act v ≡ true). ap (pick (act v)) (omega (arith, some_excess v i a, excess v i)))
          (λ (a : act v ≡ false). pick_no (w v + children n f v) a ∙ sym (pick_no (n.cost v + f v) a))
          (both (act v))

      gone : (u : ℕ) → In n.arcs u → pick (top n act u) (f u) ≡ pick (act u) (f u)
      gone u i =
          elim (dec_lt 0 (f u)) [
            | yes l ↦ ap (λ (b : Bool). pick b (f u)) (same_test (top n act u) (act u) (act_of u i l) (act_top u i))
            | no l ↦ let e : f u ≡ 0 = omega arith in rw e (pick_zero (top n act u) ∙ sym (pick_zero (act u)))
          ]

  -- a group that has as much uses every active vertex's arc
  uses_active : (s : ℕ → Bool) → group_cost n s + children n f 0 ≤ sum n.arcs (λ v. pick (s v) (w v)) → (v : ℕ)
      → In n.arcs v → act v ≡ true → used n s v ≡ true
  uses_active s much =
      from_source n rooted (λ v. In n.arcs v → act v ≡ true → used n s v ≡ true)
      (λ i a. absurd (omega arith))
      (λ v ih i a.
      ⊎_elim
      (λ (u : used n s (suc v) ≡ true). u)
      (λ (u : used n s (suc v) ≡ false). absurd (none_lacking v i a u (reached v i a ih)))
      (both (used n s (suc v))))
    where
      reached : (v : ℕ) → In n.arcs (suc v) → act (suc v) ≡ true
          → (In n.arcs (n.parent (suc v)) → act (n.parent (suc v)) ≡ true → used n s (n.parent (suc v)) ≡ true)
          → top n (used n s) (suc v) ≡ true
      reached v i a ih =
          ⊎_elim
          (λ (e : eqb (n.parent (suc v)) 0 ≡ true). or_first (used n s (n.parent (suc v))) e)
          (λ (e : eqb (n.parent (suc v)) 0 ≡ false).
          ⊎_elim
          (λ (e' : eqb (n.parent (suc v)) 0 ≡ true). absurd (clash e' e))
          (λ (t : act (n.parent (suc v)) ≡ true).
          or_second (eqb (n.parent (suc v)) 0)
          (ih (parent_in n rooted (suc v) i (eqb-false (n.parent (suc v)) 0 e)) t))
          (or_cases (eqb (n.parent (suc v)) 0) (act (n.parent (suc v))) (act_top (suc v) i a)))
          (both (eqb (n.parent (suc v)) 0))

      none_lacking : (v : ℕ) → In n.arcs (suc v) → act (suc v) ≡ true → used n s (suc v) ≡ false
          → top n (used n s) (suc v) ≡ true → ⊥
      none_lacking v i a u t =
          omega (
            arith,
            some_excess (suc v) i a,
            term_le n.arcs (suc v) (λ k. pick (top n (used n s) k && not (used n s k)) (f k)) i,
            pick_yes (f (suc v)) (and_both t (ap not u)),
            certificate n rooted w f of_members bounded s,
            much,
          )

  -- and so it has every active member
  pub active_part : MembersEnd n → (s : ℕ → Bool)
      → group_cost n s + children n f 0 ≤ sum n.arcs (λ v. pick (s v) (w v))
      → (v : ℕ) → In n.arcs v → n.member v ≡ true → act v ≡ true → s v ≡ true
  active_part end s much v i m a =
      let b = used_by n s v (uses_active s much v i a) in
      let e = eqb-true v b.by (sym (users_of_end n rooted v b.by b.within (end v m) m) ∙ b.uses) in
      ap s e ∙ b.chosen
