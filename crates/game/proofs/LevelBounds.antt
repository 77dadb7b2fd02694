-- The level rule at bounds that grow from child to parent: what the arcs give out is what the bounds say, and without
-- caps every arc's users have at least its bound.
--
--   ample_covers                 caps that are enough for every arc
--   amounts_below, amounts_all   what the arcs at or below an arc, and all arcs, give out
--   bound_above                  the bound of an arc above another
--   free_stands                  the level split without caps
--   free_has, free_total         what an arc's users have of it, and all members
use Prim.Native.Nat.{ℕ, ◌≤◌, ◌<◌}
use mathlib.Core.Path.{◌≡◌, ap, ◌∙◌}
use mathlib.Core.Bool.{true}
use mathlib.Core.List.{List}
use native.Mathlib.Decide.{dec_lt}
use native.Mathlib.Omega.{arith}
use borrow.Author.Tests.{eqb-true}
use lib.ListN.{get_or, replicate, get_or-replicate}
use lib.Dec.{eqb}
use Rattle.basics.specs.Sum.{pick, sum}
use Rattle.game.specs.Network.{Network, at_or_below, number, member_count, sum_below}
use Rattle.game.specs.ByArc.{user_count}
use Rattle.game.specs.Inward.{of_children, amount_of}
use Rattle.game.specs.Margin.{level_free}
use Rattle.basics.proofs.Bools.{and_first, and_second, pick_yes, pick_same, pick_mono}
use Rattle.basics.proofs.Sums.{In, sum_cong, sum_mono, term_le}
use Rattle.game.proofs.Below.{Rooted, below_trans, sum_below_children, sum_from_source}
use Rattle.game.proofs.SumBounds.{sum_below_le}
use Rattle.game.proofs.Inward.{from_leaves}
use Rattle.game.proofs.Overpayment.{number_lt}
use Rattle.game.proofs.UserSums.{someone_uses}
use Rattle.game.proofs.LevelRule.{lower, reached_total}
use Rattle.game.proofs.LevelList.{view, view_off, Stands, level_stands}

-- caps of x or more are enough for amounts up to x, where an arc without users has none: one user alone could take it
pub ample_covers : (n : Network) (caps : List ℕ) (x : ℕ) → ((j : ℕ) → j < member_count n → x ≤ get_or caps j 0)
    → (f : ℕ → ℕ) → ((k : ℕ) → In n.arcs k → f k ≤ x) → ((k : ℕ) → In n.arcs k → user_count n k ≡ 0 → f k ≡ 0)
    → (k : ℕ) → In n.arcs k → f k ≤ sum_below n (view n caps) k
unfolding sum_below
ample_covers n caps x ample f most none k i =
    elim (dec_lt 0 (user_count n k)) [ yes h ↦ by_one h | no h ↦ omega (arith, none k i (omega arith)) ]
  where
    by_one : 0 < user_count n k → f k ≤ sum_below n (view n caps) k
    by_one h =
        let s = someone_uses n k h in
        let v = s.by in
        let m = and_first (n.member v) (at_or_below n k v) s.uses in
        omega (
          arith,
          most k i,
          term_le n.arcs v (λ w. pick (at_or_below n k w) (view n caps w)) s.within,
          pick_yes (view n caps v) (and_second (n.member v) (at_or_below n k v) s.uses),
          pick_yes (get_or caps (number n v) 0) m,
          ample (number n v) (number_lt n v s.within m),
        )

module _ (n : Network) (rooted : Rooted n) (bound : ℕ → ℕ)
    (grows : (k : ℕ) → In n.arcs k → of_children n bound k ≤ bound k) where
  -- the arcs at or below k give out its bound
  pub amounts_below : (k : ℕ) → In n.arcs k → sum_below n (amount_of n bound) k ≡ bound k
  amounts_below =
      from_leaves n rooted (λ k. sum_below n (amount_of n bound) k ≡ bound k)
      (λ k i ih.
      omega (
        arith,
        sum_below_children n rooted (amount_of n bound) k i,
        grows k i,
        sum_cong n.arcs {f = λ u. pick (eqb (n.parent u) k) (sum_below n (amount_of n bound) u)}
            {g = λ u. pick (eqb (n.parent u) k) (bound u)}
            (λ u j. pick_same (eqb (n.parent u) k) (λ e. ih u j (eqb-true (n.parent u) k e))),
      ))

  -- all arcs together give out the bounds of those that leave the source
  pub amounts_all : sum n.arcs (amount_of n bound) ≡ of_children n bound 0
  amounts_all =
      sum_from_source n rooted (amount_of n bound)
      ∙ sum_cong n.arcs (λ u i. ap (pick (eqb (n.parent u) 0)) (amounts_below u i))

  -- so an arc's bound is no less than that of an arc at or below it
  pub bound_above : (k e : ℕ) → In n.arcs k → In n.arcs e → at_or_below n k e ≡ true → bound e ≤ bound k
  unfolding sum_below
  bound_above k e i j h =
      omega (
        arith,
        amounts_below k i,
        amounts_below e j,
        sum_mono n.arcs {f = λ v. pick (at_or_below n e v) (amount_of n bound v)}
            {g = λ v. pick (at_or_below n k v) (amount_of n bound v)}
            (λ v l. pick_mono (at_or_below n e v) (at_or_below n k v) (amount_of n bound v) (below_trans n rooted k e v h)),
      )

  -- the bounds of arcs without users are 0
  module _ (unused : (k : ℕ) → In n.arcs k → user_count n k ≡ 0 → bound k ≡ 0) where
    abbrev ample : List ℕ
    ample = replicate (member_count n) (sum n.arcs (amount_of n bound))

    ample_enough : (k : ℕ) → In n.arcs k → lower n (amount_of n bound) k ≤ sum_below n (view n ample) k
    ample_enough =
        ample_covers n ample (sum n.arcs (amount_of n bound))
        (λ j h. omega (arith, get_or-replicate {A = ℕ} (member_count n) j (sum n.arcs (amount_of n bound)) 0 h))
        (lower n (amount_of n bound)) (λ k i. sum_below_le n (amount_of n bound) k)
        (λ k i none. amounts_below k i ∙ unused k i none)

    pub free_stands : Stands n ample (amount_of n bound) 0 0 (level_free n (amount_of n bound))
    free_stands = level_stands n rooted ample (amount_of n bound) ample_enough

    pub free_has : (k : ℕ) → In n.arcs k → bound k ≤ sum_below n (view n (level_free n (amount_of n bound))) k
    free_has k i = omega (arith, free_stands.reached.kept k i.low i.high, amounts_below k i)

    pub free_total : sum n.arcs (view n (level_free n (amount_of n bound))) ≡ of_children n bound 0
    free_total =
        reached_total n rooted (view n ample) (amount_of n bound) (view_off n ample) ample_enough
        (view n (level_free n (amount_of n bound))) free_stands.reached
        ∙ amounts_all
