-- A list in the core under floors and caps.
--
--   core_need, source_exact        every arc's users pay its need, those of an arc from the source no more
--   core_adjusted                  where an arc's users keep their floors: the adjusted needs at or below it
--   core_under_caps, core_cap_sum  where they keep their caps: each of them, and what they pay together
use Prim.Native.Nat.{ℕ, ◌≤◌, ◌<◌}
use mathlib.Core.Path.{◌≡◌, ◌∙◌}
use mathlib.Core.Bool.{true, false}
use mathlib.Core.Logic.{⊎_elim}
use mathlib.Core.List.{List}
use native.Mathlib.Omega.{arith}
use borrow.Author.Tests.{eq-eqb}
use lib.ListN.{get_or}
use lib.IntN.{ℤ, pos}
use lib.Signed.{◌≤ℤ◌}
use lib.Dec.{eqb}
use Rattle.basics.specs.Sum.{pick}
use Rattle.basics.specs.Integer.{plus}
use Rattle.game.specs.Network.{Network, at_or_below, sum_below, need, number, member_count, whole_cost}
use Rattle.game.specs.Proposal.{share}
use Rattle.game.specs.Core.{users, Core, CoreByNeed}
use Rattle.game.specs.Floors.{adjusted}
use Rattle.basics.proofs.Bools.{both, pick_yes, pick_no, pick_ordered, pick_both_le}
use Rattle.basics.proofs.Sums.{In, sum_mono, sum_gap}
use Rattle.basics.proofs.Integers.{less_parts, le_less}
use Rattle.game.proofs.Below.{Rooted, sum_below_children, sum_from_source}
use Rattle.game.proofs.Excess.{MembersEnd}
use Rattle.game.proofs.Overpayment.{over_at, number_lt}
use Rattle.game.proofs.Bounds.{users_at}
use Rattle.game.proofs.Core.{core_to_bound, bound_to_need, core_nonneg, own_sum, enough, pays_all}
use Rattle.game.proofs.LevelList.{view}
use Rattle.game.proofs.Adjusted.{adjusted_least}

module _ (n : Network) (rooted : Rooted n) (ends : MembersEnd n) (shares : List ℤ) (core : Core n shares) where
  by_need : CoreByNeed n shares
  by_need = bound_to_need n rooted shares (core_to_bound n shares core)

  -- what an arc's users pay
  abbrev paid : ℕ → ℕ
  paid = sum_below n (over_at n shares)

  pub core_need : (k : ℕ) → In n.arcs k → need n k ≤ sum_below n (over_at n shares) k
  core_need = enough n rooted ends shares by_need

  pub source_exact : (k : ℕ) → In n.arcs k → n.parent k ≡ 0 → sum_below n (over_at n shares) k ≡ need n k
  unfolding whole_cost
  source_exact k i e =
      omega (
        arith,
        core_need k i,
        sum_gap n.arcs k (λ u. pick (eqb (n.parent u) 0) (need n u)) (λ u. pick (eqb (n.parent u) 0) (paid u))
            (λ u j. pick_both_le (eqb (n.parent u) 0) (core_need u j)) i,
        pick_yes (need n k) (eq-eqb (n.parent k) 0 e),
        pick_yes (paid k) (eq-eqb (n.parent k) 0 e),
        sum_from_source n rooted n.cost,
        sum_from_source n rooted (over_at n shares),
        pays_all n rooted ends shares by_need,
      )

  module _ (floors : List ℕ) (a : ℕ)
      (kept : (j : ℕ) → j < member_count n → users n a j ≡ true → pos (get_or floors j 0) ≤ℤ share shares j) where
    pub core_adjusted : (k : ℕ) → In n.arcs k → at_or_below n a k ≡ true
        → adjusted n floors k ≤ sum_below n (over_at n shares) k
    core_adjusted =
        adjusted_least n rooted ends floors a paid core_need
        (λ k i m b.
        let x = share shares (number n k) in
        let f = pos (get_or floors (number n k) 0) in
        omega (
          arith,
          own_sum n rooted ends (over_at n shares) k i m,
          pick_yes (plus x) m,
          le_less f x (less_parts f) (less_parts x) (kept (number n k) (number_lt n k i m) (users_at n a k i m ∙ b)),
        ))
        (λ k i. omega (arith, sum_below_children n rooted (over_at n shares) k i))

  module _ (caps : List ℕ) (a : ℕ)
      (kept : (j : ℕ) → j < member_count n → users n a j ≡ true → share shares j ≤ℤ pos (get_or caps j 0)) where
    pub core_under_caps : (v : ℕ) → In n.arcs v → at_or_below n a v ≡ true → over_at n shares v ≤ view n caps v
    core_under_caps v i b =
        ⊎_elim
        (λ (m : n.member v ≡ true).
        let x = share shares (number n v) in
        let c = pos (get_or caps (number n v) 0) in
        let h = number_lt n v i m in
        pick_both_le (n.member v)
        (omega (
          arith,
          le_less x c (less_parts x) (less_parts c) (kept (number n v) h (users_at n a v i m ∙ b)),
          core_nonneg n rooted ends shares core (number n v) h,
        )))
        (λ (m : n.member v ≡ false). omega (arith, pick_no (plus (share shares (number n v))) m))
        (both (n.member v))

    pub core_cap_sum : sum_below n (over_at n shares) a ≤ sum_below n (view n caps) a
    unfolding sum_below
    core_cap_sum = sum_mono n.arcs (λ v i. pick_ordered (at_or_below n a v) (core_under_caps v i))
