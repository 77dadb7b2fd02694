-- The paper's bound of an arc: the costs of the arcs that only the arc's users use; never below the need, and when
-- it is the need.
use Prim.Native.Nat.{ℕ, zero, suc, ◌≤◌}
use mathlib.Core.Path.{◌≡◌, sym, ap, ◌∙◌, subst}
use mathlib.Core.Bool.{Bool, true, false, not}
use mathlib.Core.Logic.{◌⊎◌, ⊎_elim}
use native.Mathlib.Omega.{arith}
use lib.IntN.{ℤ, pos}
use lib.Signed.{◌≤ℤ◌}
use Rattle.basics.specs.Sum.{pick}
use Rattle.game.specs.Network.{Network, at_or_below, user, used, group_cost, everyone, sum_below, need, whole_cost}
use Rattle.game.specs.Network.{number}
use Rattle.game.specs.Group.{group_by_number}
use Rattle.game.specs.Core.{users, others, bound, only_theirs, IsArc}
use Rattle.basics.proofs.Bools.{both, clash, not_so, and_both, and_first, and_second, same_test, pick_mono, pick_zero}
use Rattle.basics.proofs.Sums.{In, sum_cong, sum_mono, sum_parts}
use Rattle.game.proofs.Counted.{UnusedFree}
use Rattle.game.proofs.Below.{Rooted, below_trans, below_cases, below_comparable, below_le, below_self}
use Rattle.game.proofs.Groups.{UsedBy, used_of, used_by}
use Rattle.game.proofs.Numbering.{member_at}
use Rattle.basics.proofs.Integers.{Less, less_parts, less_minus, less_same, less_le}

-- k's parent has a user that is no user of k
pub record OtherUser (n : Network) (k : ℕ) : Type 0 where
  pub who : ℕ
  pub within : In n.arcs who
  pub uses_parent : user n (n.parent k) who ≡ true
  pub not_below : at_or_below n k who ≡ false

-- where an arc that nobody uses costs nothing, two tests that agree on a used arc pick the same of its cost
pub used_pick : (n : Network) → UnusedFree n → (e : ℕ) → In n.arcs e
    → (a b : Bool) → (used n everyone e ≡ true → a ≡ b) → pick a (n.cost e) ≡ pick b (n.cost e)
used_pick n unused_free e i a b agree =
    ⊎_elim
    (λ (by : used n everyone e ≡ true). ap (λ (c : Bool). pick c (n.cost e)) (agree by))
    (λ (by : used n everyone e ≡ false). rw (unused_free e i by) (pick_zero a ∙ sym (pick_zero b)))
    (both (used n everyone e))

module _ (n : Network) where
  -- the users of an arc by member number are the members at or below it
  pub users_at : (k v : ℕ) → In n.arcs v → n.member v ≡ true → users n k (number n v) ≡ at_or_below n k v
  users_at k v i m = ap (at_or_below n k) (member_at n.member n.arcs v i m)

  pub less_bound : (k : ℕ) → Less (bound n k) (whole_cost n) (group_cost n (group_by_number n (others n k)))
  less_bound k =
      let c = group_cost n (group_by_number n (others n k)) in
      omega (arith, less_minus (pos (whole_cost n)) (pos c) (less_parts (pos (whole_cost n))) (less_parts (pos c)))

  pub bound_is_only_theirs : (k : ℕ) → bound n k ≡ pos (only_theirs n k)
  unfolding only_theirs whole_cost group_cost
  bound_is_only_theirs k =
      less_same (bound n k) (pos (only_theirs n k)) (less_bound k) (less_parts (pos (only_theirs n k)))
      (omega (arith, sum_parts n.arcs (used n (group_by_number n (others n k))) n.cost))

module _ (n : Network) (rooted : Rooted n) where
  -- an arc at or below k is not used by the members that do not use k
  not_others : (k e : ℕ) → at_or_below n k e ≡ true → used n (group_by_number n (others n k)) e ≡ false
  not_others k e h = not_so (used n (group_by_number n (others n k)) e) (λ u. none (used_by n (group_by_number n (others n k)) e u))
    where
      none : UsedBy n (group_by_number n (others n k)) e → ⊥
      none b =
          let m = and_first (n.member b.by) (at_or_below n e b.by) b.uses in
          let h' = below_trans n rooted k e b.by h
          (and_second (n.member b.by) (at_or_below n e b.by) b.uses) in
          clash b.chosen (ap not (users_at n k b.by b.within m ∙ h'))

  pub need_le_only : (k : ℕ) → need n k ≤ only_theirs n k
  unfolding sum_below only_theirs
  need_le_only k =
      sum_mono n.arcs
      (λ e i. pick_mono (at_or_below n k e) (not (used n (group_by_number n (others n k)) e)) (n.cost e)
      (λ h. ap not (not_others k e h)))

  pub need_le_bound : (k : ℕ) → pos (need n k) ≤ℤ bound n k
  need_le_bound k =
      subst (λ (z : ℤ). pos (need n k) ≤ℤ z) (sym (bound_is_only_theirs n k))
      (less_le (pos (need n k)) (pos (only_theirs n k)) (less_parts (pos (need n k)))
      (less_parts (pos (only_theirs n k))) (omega (arith, need_le_only k)))

  -- an arc above k other than k is above k's parent
  pub above_parent : (e k : ℕ) → In n.arcs k → at_or_below n e k ≡ true → at_or_below n k e ≡ false
      → at_or_below n e (n.parent k) ≡ true
  above_parent e zero i h out = absurd (omega arith)
  above_parent e (suc k) i h out =
      ⊎_elim
      (λ (d : e ≡ suc k). absurd (clash (ap (at_or_below n (suc k)) d ∙ below_self n rooted (suc k)) out))
      (λ (h' : at_or_below n e (n.parent (suc k)) ≡ true). h')
      (below_cases n rooted e k h)

  module _ (unused_free : UnusedFree n) (k : ℕ) (arc : IsArc n k) (free : (n.parent k ≡ 0) ⊎ OtherUser n k) where
    -- a user of an arc that does not use k
    others_by : (e v : ℕ) → In n.arcs v → user n e v ≡ true → at_or_below n k v ≡ false
        → used n (group_by_number n (others n k)) e ≡ true
    others_by e v i u out =
        used_of n
        (record {
          by = v;
          within = i;
          chosen = ap not (users_at n k v i (and_first (n.member v) (at_or_below n e v) u) ∙ out);
          uses = u;
        })

    -- an arc above k other than k is used by a member that does not use k
    others_above : (e : ℕ) → In n.arcs e → at_or_below n e (n.parent k) ≡ true
        → used n (group_by_number n (others n k)) e ≡ true
    others_above e i h =
        ⊎_elim
        (λ (d : n.parent k ≡ 0). absurd (omega (arith, below_le n rooted e (n.parent k) h)))
        (λ (o : OtherUser n k).
        others_by e o.who o.within
        (and_both (and_first (n.member o.who) (at_or_below n (n.parent k) o.who) o.uses_parent)
        (below_trans n rooted e (n.parent k) o.who h
        (and_second (n.member o.who) (at_or_below n (n.parent k) o.who) o.uses_parent)))
        o.not_below)
        free

    -- and so is every used arc that is not at or below k
    others_use : (e : ℕ) → In n.arcs e → used n everyone e ≡ true → at_or_below n k e ≡ false
        → used n (group_by_number n (others n k)) e ≡ true
    others_use e i by out =
        let b = used_by n everyone e by in
        let below = and_second (n.member b.by) (at_or_below n e b.by) b.uses in
        ⊎_elim
        (λ (h : at_or_below n k b.by ≡ true).
        ⊎_elim
        (λ (d : at_or_below n k e ≡ true). absurd (clash d out))
        (λ (d : at_or_below n e k ≡ true). others_above e i (above_parent e k (omega arith) d out))
        (below_comparable n rooted k e b.by h below))
        (λ (h : at_or_below n k b.by ≡ false). others_by e b.by b.within b.uses h)
        (both (at_or_below n k b.by))

    only_at : (e : ℕ) → In n.arcs e → used n everyone e ≡ true
        → at_or_below n k e ≡ not (used n (group_by_number n (others n k)) e)
    only_at e i by =
        same_test (at_or_below n k e) (not (used n (group_by_number n (others n k)) e))
        (λ h. ap not (not_others k e h))
        (λ h.
        ⊎_elim
        (λ (d : at_or_below n k e ≡ true). d)
        (λ (d : at_or_below n k e ≡ false). absurd (clash h (ap not (others_use e i by d))))
        (both (at_or_below n k e)))

    need_is_only : need n k ≡ only_theirs n k
    unfolding sum_below only_theirs
    need_is_only =
        sum_cong n.arcs
        (λ e i. used_pick n unused_free e i (at_or_below n k e) (not (used n (group_by_number n (others n k)) e)) (only_at e i))

    pub need_is_bound : pos (need n k) ≡ bound n k
    need_is_bound = ap pos need_is_only ∙ sym (bound_is_only_theirs n k)
