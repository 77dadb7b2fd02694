-- The need and the paper's bound along an unbranched run.
use Prim.Native.Nat.{ℕ, ◌+◌}
use mathlib.Core.Path.{◌≡◌, refl, sym, ap, ◌∙◌}
use mathlib.Core.Bool.{true, false, not, ◌||◌}
use mathlib.Core.Logic.{◌↔◌, ⊎_elim}
use native.Mathlib.Omega.{arith}
use borrow.Author.Tests.{eqb-true, eq-eqb}
use lib.Dec.{eqb}
use lib.IntN.{pos, ◌-ℤ◌}
use Rattle.basics.specs.Sum.{pick}
use Rattle.game.specs.Network.{Network, at_or_below, user, used, everyone, sum_below, need, whole_cost}
use Rattle.game.specs.Group.{group_by_number}
use Rattle.game.specs.Core.{others, bound, only_theirs}
use Rattle.basics.proofs.Bools.{both, clash, and_both, and_first, and_second, or_first, or_second, or_cases}
use Rattle.basics.proofs.Bools.{same_test, pick_either}
use Rattle.basics.proofs.Sums.{In, sum_cong, sum_add, sum_at}
use Rattle.game.proofs.Counted.{UnusedFree}
use Rattle.game.proofs.Below.{Rooted, child_after, below_trans, below_comparable, below_le, below_self}
use Rattle.game.proofs.Groups.{used_by, child_below}
use Rattle.game.proofs.Overpayment.{cost_same}
use Rattle.game.proofs.Bounds.{used_pick, users_at, bound_is_only_theirs, need_le_only, above_parent}

-- an unbranched run goes on from k's parent to k: every user of the parent's arc uses k
pub record Run (n : Network) (k : ℕ) : Type 0 where
  pub lower : In n.arcs k
  pub upper : In n.arcs (n.parent k)
  pub same : (v : ℕ) → In n.arcs v → user n (n.parent k) v ≡ true → at_or_below n k v ≡ true

module _ (n : Network) (rooted : Rooted n) (k : ℕ) (run : Run n k) where
  abbrev p : ℕ
  p = n.parent k

  below_p : at_or_below n p k ≡ true
  below_p = child_below n rooted p k run.lower refl

  -- p and k have the same users
  same_others : (v : ℕ) → In n.arcs v → n.member v ≡ true
      → group_by_number n (others n k) v ≡ group_by_number n (others n p) v
  same_others v i m =
      ap not
      (users_at n k v i m
      ∙ same_test (at_or_below n k v) (at_or_below n p v)
      (below_trans n rooted p k v below_p)
      (λ h. run.same v i (and_both m h))
      ∙ sym (users_at n p v i m))

  pub run_same_bound : bound n k ≡ bound n p
  run_same_bound =
      ap (λ (c : ℕ). pos (whole_cost n) -ℤ pos c)
      (cost_same n (group_by_number n (others n k)) (group_by_number n (others n p)) same_others)

  -- a used arc at or below p is p's own or at or below k
  run_below : (e : ℕ) → used n everyone e ≡ true → at_or_below n p e ≡ (eqb p e || at_or_below n k e)
  run_below e by =
      same_test (at_or_below n p e) (eqb p e || at_or_below n k e)
      (λ h.
      ⊎_elim
      (or_second (eqb p e))
      (λ (out : at_or_below n k e ≡ false). or_first (at_or_below n k e) (own h out))
      (both (at_or_below n k e)))
      (λ h.
      ⊎_elim
      (λ (d : eqb p e ≡ true). ap (at_or_below n p) (sym (eqb-true p e d)) ∙ below_self n rooted p)
      (below_trans n rooted p k e below_p)
      (or_cases (eqb p e) (at_or_below n k e) h))
    where
      own : at_or_below n p e ≡ true → at_or_below n k e ≡ false → eqb p e ≡ true
      own h out =
          let b = used_by n everyone e by in
          let m = and_first (n.member b.by) (at_or_below n e b.by) b.uses in
          let below = and_second (n.member b.by) (at_or_below n e b.by) b.uses in
          ⊎_elim
          (λ (d : at_or_below n k e ≡ true). absurd (clash d out))
          (λ (d : at_or_below n e k ≡ true).
          eq-eqb p e
          (omega
          (arith, below_le n rooted p e h, below_le n rooted e p (above_parent n rooted e k run.lower d out))))
          (below_comparable n rooted k e b.by
          (run.same b.by b.within (and_both m (below_trans n rooted p e b.by h below))) below)

  module _ (unused_free : UnusedFree n) where
    pub run_parent_need : need n p ≡ n.cost p + need n k
    unfolding sum_below
    run_parent_need =
        sum_cong n.arcs
        (λ e i.
        used_pick n unused_free e i (at_or_below n p e) (eqb p e || at_or_below n k e) (run_below e)
        ∙ pick_either (eqb p e) (at_or_below n k e) (n.cost e)
        (λ d h. omega (arith, eqb-true p e d, below_le n rooted k e h, child_after n rooted p k run.lower refl)))
        ∙ sum_add n.arcs (λ e. pick (eqb p e) (n.cost e)) (λ e. pick (at_or_below n k e) (n.cost e))
        ∙ ap (λ (c : ℕ). c + need n k) (sum_at n.arcs p n.cost run.upper)

    -- so the need is the bound exactly where p's arc costs nothing and its need is its bound
    pub run_need_is_bound : (pos (need n k) ≡ bound n k) ↔ ((n.cost p ≡ 0) × (pos (need n p) ≡ bound n p))
    run_need_is_bound = (only_where, where_so)
      where
        only_where : pos (need n k) ≡ bound n k → (n.cost p ≡ 0) × (pos (need n p) ≡ bound n p)
        only_where e =
            let theirs : pos (need n k) ≡ pos (only_theirs n p) = e ∙ run_same_bound ∙ bound_is_only_theirs n p in
            let all : need n k ≡ only_theirs n p = cc in
            let free : n.cost p ≡ 0 = omega (arith, run_parent_need, need_le_only n rooted p) in
            (free, ap pos (omega (arith, run_parent_need)) ∙ e ∙ run_same_bound)

        where_so : (n.cost p ≡ 0) × (pos (need n p) ≡ bound n p) → pos (need n k) ≡ bound n k
        where_so (free, e) = ap pos (omega (arith, run_parent_need)) ∙ e ∙ sym run_same_bound
