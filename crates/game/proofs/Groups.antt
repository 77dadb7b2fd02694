-- The game over groups of vertices.
--
--   used_of, used_by              an arc is used, with the member `UsedBy` that uses it
--   used_child, used_children     from the children up
--   empty_cost                    nobody
--   cost_mono, submodular         a larger group; inequality (2) of the paper
--   below_child, child_below      children and what is below
use Prim.Native.Nat.{ℕ, zero, suc, ◌+◌, ◌≤◌}
use mathlib.Core.Path.{◌≡◌, refl, sym, ap, ◌∙◌, subst}
use mathlib.Core.Bool.{Bool, true, false, not, ◌&&◌, ◌||◌}
use mathlib.Core.Logic.{◌⊎◌, inl, inr, ⊎_elim}
use native.Mathlib.Omega.{arith}
use borrow.Author.Tests.{eqb-true, eq-eqb}
use lib.Dec.{eqb}
use Rattle.basics.specs.Sum.{pick, some}
use Rattle.game.specs.Network.{Network, at_or_below, user, used, group_cost}
use Rattle.basics.proofs.Bools.{both, clash, not_so, and_both, and_first, and_second, or_first, or_second, or_cases}
use Rattle.basics.proofs.Bools.{same_test, pick_no, pick_mono, pick_two}
use Rattle.basics.proofs.Sums.{In, Some, some_of, some_is, sum_mono, sum_zero, sum_add}
use Rattle.game.proofs.Below.{Rooted, from_source, below_self, below_parent, below_trans, below_cases}
use Rattle.game.proofs.Below.{below_source}

module _ (n : Network) where
  -- a member of the group that uses arc k
  pub record UsedBy (g : ℕ → Bool) (k : ℕ) : Type 0 where
    pub by : ℕ
    pub within : In n.arcs by
    pub chosen : g by ≡ true
    pub uses : user n k by ≡ true

  pub used_of : {g : ℕ → Bool} {k : ℕ} → UsedBy g k → used n g k ≡ true
  unfolding used
  used_of {g} {k} b = some_of n.arcs b.by (λ v. g v && user n k v) b.within (and_both b.chosen b.uses)

  pub used_by : (g : ℕ → Bool) (k : ℕ) → used n g k ≡ true → UsedBy g k
  unfolding used
  used_by g k h =
      let s = some_is n.arcs (λ v. g v && user n k v) h in
      record {
        by = s.which;
        within = s.within;
        chosen = and_first (g s.which) (user n k s.which) s.passes;
        uses = and_second (g s.which) (user n k s.which) s.passes;
      }

  used_more : (g h : ℕ → Bool) (k : ℕ) → ((v : ℕ) → g v ≡ true → h v ≡ true) → used n g k ≡ true → used n h k ≡ true
  used_more g h k sub u =
      let b = used_by g k u in
      used_of (record { by = b.by; within = b.within; chosen = sub b.by b.chosen; uses = b.uses })

  pub empty_cost : group_cost n (λ v. false) ≡ 0
  unfolding group_cost
  empty_cost =
      sum_zero n.arcs
      (λ k i. pick_no (n.cost k)
      (not_so (used n (λ v. false) k) (λ u. clash {b = false} (used_by (λ v. false) k u).chosen refl)))

  pub cost_mono : (g h : ℕ → Bool) → ((v : ℕ) → g v ≡ true → h v ≡ true) → group_cost n g ≤ group_cost n h
  unfolding group_cost
  cost_mono g h sub = sum_mono n.arcs (λ k i. pick_mono (used n g k) (used n h k) (n.cost k) (used_more g h k sub))

  -- g is part of h, and what is taken out of h is in g: taking it out saves g at least as much as h
  pub submodular : (g h r : ℕ → Bool) → ((v : ℕ) → g v ≡ true → h v ≡ true)
      → ((v : ℕ) → h v ≡ true → r v ≡ true → g v ≡ true)
      → group_cost n h + group_cost n (λ v. g v && not (r v)) ≤ group_cost n g + group_cost n (λ v. h v && not (r v))
  unfolding group_cost
  submodular g h r sub out =
      omega (
        arith,
        sum_mono
            n.arcs {f = λ k. pick (used n h k) (n.cost k) + pick (used n g∖r k) (n.cost k)}
            {g = λ k. pick (used n g k) (n.cost k) + pick (used n h∖r k) (n.cost k)}
            (λ k i.
            pick_two (used n h k) (used n g∖r k) (used n g k) (used n h∖r k) (n.cost k)
            (used_more g∖r g k (λ v e. and_first (g v) (not (r v)) e))
            (used_more g∖r h∖r k
            (λ v e. and_both (sub v (and_first (g v) (not (r v)) e)) (and_second (g v) (not (r v)) e)))
            (λ u. either k (used_by h k u))),
        sum_add n.arcs (λ k. pick (used n h k) (n.cost k)) (λ k. pick (used n g∖r k) (n.cost k)),
        sum_add n.arcs (λ k. pick (used n g k) (n.cost k)) (λ k. pick (used n h∖r k) (n.cost k)),
      )
    where
      g∖r : ℕ → Bool
      g∖r v = g v && not (r v)

      h∖r : ℕ → Bool
      h∖r v = h v && not (r v)

      either : (k : ℕ) → UsedBy h k → (used n g k ≡ true) ⊎ (used n h∖r k ≡ true)
      either k b =
          ⊎_elim
          (λ (e : r b.by ≡ true).
          inl (used_of (record { by = b.by; within = b.within; chosen = out b.by b.chosen e; uses = b.uses })))
          (λ (e : r b.by ≡ false).
          inr (used_of
          (record { by = b.by; within = b.within; chosen = and_both b.chosen (ap not e); uses = b.uses })))
          (both (r b.by))

-- an arc is used exactly when its own vertex is a member of the group, or one of its child arcs is used
module _ (n : Network) (rooted : Rooted n) where
  pub below_child : (k : ℕ) → (v : ℕ) → v ≤ n.arcs → at_or_below n k v ≡ true
      → (k ≡ v) ⊎ Some n.arcs (λ u. eqb (n.parent u) k && at_or_below n u v)
  below_child k =
      from_source n rooted
      (λ v. v ≤ n.arcs → at_or_below n k v ≡ true
      → (k ≡ v) ⊎ Some n.arcs (λ u. eqb (n.parent u) k && at_or_below n u v))
      (λ h b. inl (eqb-true k 0 (sym (below_source n rooted k) ∙ b)))
      (λ v ih h b.
      ⊎_elim
      (λ (e : k ≡ suc v). inl e)
      (λ (b' : at_or_below n k (n.parent (suc v)) ≡ true).
      ⊎_elim
      (λ (e : k ≡ n.parent (suc v)).
      inr
      (record {
        which = suc v;
        within = omega arith;
        passes = and_both (eq-eqb (n.parent (suc v)) k (sym e)) (below_self n rooted (suc v));
      }))
      (λ (s : Some n.arcs (λ u. eqb (n.parent u) k && at_or_below n u (n.parent (suc v)))).
      inr
      (record {
        which = s.which;
        within = s.within;
        passes =
            and_both (and_first (eqb (n.parent s.which) k) (at_or_below n s.which (n.parent (suc v))) s.passes)
            (below_parent n rooted s.which v
            (and_second (eqb (n.parent s.which) k) (at_or_below n s.which (n.parent (suc v))) s.passes));
      }))
      (ih (omega (arith, rooted v)) b'))
      (below_cases n rooted k v b))

  -- a child is below its parent
  pub child_below : (k u : ℕ) → In n.arcs u → n.parent u ≡ k → at_or_below n k u ≡ true
  child_below k zero i e = absurd (omega arith)
  child_below k (suc u) i e =
      below_parent n rooted k u (subst (λ (w : ℕ). at_or_below n k w ≡ true) (sym e) (below_self n rooted k))

  pub used_child : (g : ℕ → Bool) (k u : ℕ) → In n.arcs u → n.parent u ≡ k → used n g u ≡ true → used n g k ≡ true
  used_child g k u i e h =
      let b = used_by n g u h in
      used_of n
      (record {
        by = b.by;
        within = b.within;
        chosen = b.chosen;
        uses =
            and_both (and_first (n.member b.by) (at_or_below n u b.by) b.uses)
            (below_trans n rooted k u b.by (child_below k u i e)
            (and_second (n.member b.by) (at_or_below n u b.by) b.uses));
      })

  pub used_children : (g : ℕ → Bool) (k : ℕ) → In n.arcs k
      → used n g k ≡ ((g k && n.member k) || some n.arcs (λ u. eqb (n.parent u) k && used n g u))
  used_children g k i =
      same_test (used n g k) ((g k && n.member k) || some n.arcs (λ u. eqb (n.parent u) k && used n g u))
      (λ h. down (used_by n g k h))
      (λ h. up (or_cases (g k && n.member k) (some n.arcs (λ u. eqb (n.parent u) k && used n g u)) h))
    where
      down : UsedBy n g k → ((g k && n.member k) || some n.arcs (λ u. eqb (n.parent u) k && used n g u)) ≡ true
      down b =
          let m = and_first (n.member b.by) (at_or_below n k b.by) b.uses in
          ⊎_elim
          (λ (e : k ≡ b.by). or_first (some n.arcs (λ u. eqb (n.parent u) k && used n g u))
          (and_both (ap g e ∙ b.chosen) (ap n.member e ∙ m)))
          (λ (s : Some n.arcs (λ u. eqb (n.parent u) k && at_or_below n u b.by)).
          or_second (g k && n.member k)
          (some_of n.arcs s.which (λ u. eqb (n.parent u) k && used n g u) s.within
          (and_both (and_first (eqb (n.parent s.which) k) (at_or_below n s.which b.by) s.passes)
          (used_of n
          (record {
            by = b.by;
            within = b.within;
            chosen = b.chosen;
            uses = and_both m (and_second (eqb (n.parent s.which) k) (at_or_below n s.which b.by) s.passes);
          })))))
          (below_child k b.by b.within.high (and_second (n.member b.by) (at_or_below n k b.by) b.uses))

      up : ((g k && n.member k) ≡ true) ⊎ (some n.arcs (λ u. eqb (n.parent u) k && used n g u) ≡ true)
          → used n g k ≡ true
      up (inl e) =
          used_of n
          (record {
            by = k;
            within = i;
            chosen = and_first (g k) (n.member k) e;
            uses = and_both (and_second (g k) (n.member k) e) (below_self n rooted k);
          })
      up (inr e) =
          let s = some_is n.arcs (λ u. eqb (n.parent u) k && used n g u) e in
          used_child g k s.which s.within
          (eqb-true (n.parent s.which) k
          (and_first (eqb (n.parent s.which) k) (used n g s.which) s.passes))
          (and_second (eqb (n.parent s.which) k) (used n g s.which) s.passes)
