-- The units left over at an arc go to its users in turn.
use Prim.Native.Nat.{ℕ, zero, suc, ◌+◌, ◌-◌, ◌≤◌, ◌<◌}
use mathlib.Core.Path.{◌≡◌, sym, ap, ◌∙◌}
use mathlib.Core.Bool.{Bool, true, false, ◌&&◌}
use mathlib.Core.Logic.{⊎_elim}
use native.Mathlib.Decide.{dec_lt}
use native.Mathlib.Nat.{mod-lt}
use native.Mathlib.Omega.{arith}
use borrow.Author.Tests.{lt-ltb, le-ltb}
use lib.Dec.{ltb}
use Rattle.basics.specs.Sum.{pick, sum}
use Rattle.basics.proofs.Bools.{both, pick_yes, pick_no, pick_and}
use Rattle.basics.proofs.Sums.{sum_cong, sum_zero}
use Rattle.basics.proofs.Sizes.{size_same}
use Rattle.game.specs.Network.{Network, member_count}
use Rattle.game.specs.Core.{users}
use Rattle.game.specs.ByArc.{user_count, equal_part, leftover, rank, served, tallies_at}
use Rattle.game.proofs.Gifts.{served_count, served_first}
use Rattle.game.proofs.ByArc.{tally_at}
use Rattle.answers.specs.ByArcLaws.{gets_more, InTurn}

-- the terms above k and those up to k
sum_above : (m k : ℕ) (f : ℕ → ℕ) → k ≤ m → sum m (λ e. pick (ltb k e) (f e)) + sum k f ≡ sum m f
sum_above zero k f h = let e : k ≡ 0 = omega arith in rw e (omega arith)
sum_above (suc m) k f h =
    elim (dec_lt k (suc m)) [
      | yes l ↦ omega (arith, sum_above m k f (omega arith), pick_yes (f (suc m)) (lt-ltb k (suc m) l))
      | no l ↦
          let e : k ≡ suc m = omega arith in
          omega (
            arith,
            ap (λ (a : ℕ). sum a f) e,
            sum_zero (suc m) {f = λ u. pick (ltb k u) (f u)} (λ u i. pick_no (f u) (le-ltb k u (omega arith))),
          )
    ]

module _ (n : Network) where
  -- more than the equal part is one unit left over
  more_is : (k j : ℕ) → gets_more n k j ≡ served n k (tallies_at n k) j
  more_is k j =
      ⊎_elim
      (λ (u : users n k j ≡ true). rw u (one_more (ltb (rank n k (tallies_at n k) j) (leftover n k))))
      (λ (u : users n k j ≡ false). rw u)
      (both (users n k j))
    where
      one_more : (b : Bool) → ltb (equal_part n k) (equal_part n k + pick b 1) ≡ b
      one_more true = lt-ltb (equal_part n k) (equal_part n k + 1) (omega arith)
      one_more false = le-ltb (equal_part n k) (equal_part n k + 0) (omega arith)

  pub in_turn : (k : ℕ) → k ≤ n.arcs → 0 < user_count n k → InTurn n k
  in_turn k high some =
      record {
        as_many =
            size_same (member_count n) (gets_more n k) (served n k (tallies_at n k)) (λ j h. more_is k j)
            ∙ omega (arith, served_count n k (tallies_at n k), mod-lt (n.cost k) some);
        first =
            λ i j hi hj u ahead more.
            more_is k i ∙ served_first n k (tallies_at n k) i j hi hj u ahead (sym (more_is k j) ∙ more);
        tally =
            λ j h.
            let back : n.arcs - (n.arcs - k) ≡ k = omega arith in
            let turn : ℕ → ℕ = λ e. pick (served n e (tallies_at n e) j) 1 in
            omega (
              arith,
              tally_at n j h (n.arcs - k) (omega arith),
              ap (λ (a : ℕ). sum a turn) back,
              sum_above n.arcs k turn high,
              sum_cong n.arcs {f = λ e. pick (ltb k e && gets_more n e j) 1} {g = λ e. pick (ltb k e) (turn e)}
                  (λ e i. pick_and (ltb k e) (gets_more n e j) 1
                  ∙ ap (λ (b : Bool). pick (ltb k e) (pick b 1)) (more_is e j)),
            );
      }
