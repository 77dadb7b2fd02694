-- A list of whole shares, of either sign, that adds up to the need of arc b and gives the users of every arc that not
-- all members use its need and e: then e is a possible margin.
use Prim.Native.Nat.{ℕ, ◌+◌, ◌≤◌, ◌<◌}
use mathlib.Core.Path.{◌≡◌, sym, ◌∙◌}
use mathlib.Core.Bool.{true, false}
use mathlib.Core.Logic.{⊎_elim}
use mathlib.Core.List.{List}
use native.Mathlib.Decide.{dec_lt}
use native.Mathlib.Omega.{arith}
use borrow.Author.Tests.{lt-ltb, le-ltb}
use lib.IntN.{ℤ, pos}
use lib.Signed.{◌≤ℤ◌}
use Rattle.basics.specs.Sum.{sum}
use Rattle.basics.specs.Integer.{plus, minus}
use Rattle.game.specs.Network.{Network, at_or_below, sum_below, need, whole_cost, number, member_count}
use Rattle.game.specs.Proposal.{share, pays}
use Rattle.game.specs.Core.{users}
use Rattle.game.specs.ByArc.{user_count}
use Rattle.game.specs.Margin.{raised}
use Rattle.basics.proofs.Bools.{both, pick_yes, pick_no}
use Rattle.basics.proofs.Sums.{In, sum_cong, sum_zero}
use Rattle.basics.proofs.Integers.{less_parts, less_is, le_less, no_minus}
use Rattle.game.proofs.Below.{Rooted, sum_below_children}
use Rattle.game.proofs.SumBounds.{sum_below_le}
use Rattle.game.proofs.Numbering.{vertex_of}
use Rattle.game.proofs.Excess.{MembersEnd}
use Rattle.game.proofs.Counted.{UnusedFree}
use Rattle.game.proofs.Overpayment.{over_at, under_at, less_pays}
use Rattle.game.proofs.Core.{users_sum, own_sum}
use Rattle.game.proofs.UserSums.{count_own}
use Rattle.game.proofs.Branched.{Branched, whole_is_need}
use Rattle.game.proofs.Raised.{base, raised_least}
use Rattle.game.proofs.MarginKept.{fewer_than_all}

module _ (n : Network) (rooted : Rooted n) (ends : MembersEnd n) (free : UnusedFree n) (b : ℕ) (br : Branched n b)
    (two : 2 ≤ member_count n) (shares : List ℤ) (adds : pays n shares (λ j. true) ≡ pos (need n b)) (e : ℕ)
    (has : (k : ℕ) → In n.arcs k → 0 < user_count n k → user_count n k < member_count n
    → pos (need n k + e) ≤ℤ pays n shares (users n k)) where
  over : ℕ → ℕ
  over = over_at n shares

  under : ℕ → ℕ
  under = under_at n shares

  -- by the parts of the shares
  has_parts : (k : ℕ) → In n.arcs k → 0 < user_count n k → user_count n k < member_count n
      → need n k + e + sum_below n under k ≤ sum_below n over k
  unfolding over under
  has_parts k i some few =
      omega (
        arith,
        le_less (pos (need n k + e)) (pays n shares (users n k)) (less_parts (pos (need n k + e)))
            (less_pays n shares (users n k)) (has k i some few),
        users_sum n (over_at n shares) (λ v j m. pick_no (plus (share shares (number n v))) m) k,
        users_sum n (under_at n shares) (λ v j m. pick_no (minus (share shares (number n v))) m) k,
      )

  -- at a member's own arc
  own_parts : (v : ℕ) → In n.arcs v → n.member v ≡ true
      → need n v + e + sum_below n under v ≤ sum_below n over v
  own_parts v i m =
      let one = count_own n rooted ends v i m in has_parts v i (omega (arith, one)) (omega (arith, one, two))

  -- so no share is negative
  none_under : (v : ℕ) → In n.arcs v → under v ≡ 0
  unfolding over under
  none_under v i =
      ⊎_elim
      (λ (m : n.member v ≡ true).
      pick_yes (minus (share shares (number n v))) m
      ∙ no_minus (share shares (number n v))
      (omega (
        arith,
        own_parts v i m,
        own_sum n rooted ends (over_at n shares) v i m,
        own_sum n rooted ends (under_at n shares) v i m,
        pick_yes (plus (share shares (number n v))) m,
        pick_yes (minus (share shares (number n v))) m,
      )))
      (λ (m : n.member v ≡ false). pick_no (minus (share shares (number n v))) m)
      (both (n.member v))

  over_total : sum n.arcs over ≡ need n b
  unfolding over under
  over_total =
      omega (
        arith,
        less_is (less_pays n shares (λ j. true)) (less_parts (pos (need n b))) adds,
        sum_zero n.arcs {f = under_at n shares} none_under,
      )

  -- the users of an arc that all members use have all of it
  all_over : (k : ℕ) → (user_count n k < member_count n → ⊥) → sum_below n over k ≡ sum n.arcs over
  unfolding over sum_below
  all_over k all =
      sum_cong n.arcs
      (λ v i.
      ⊎_elim
      (λ (h : at_or_below n k v ≡ true). pick_yes (over v) h)
      (λ (h : at_or_below n k v ≡ false).
      pick_no (over v) h
      ∙ sym
      (⊎_elim
      (λ (m : n.member v ≡ true). absurd (all (fewer_than_all n k v i m h)))
      (λ (m : n.member v ≡ false). pick_no (plus (share shares (number n v))) m)
      (both (n.member v))))
      (both (at_or_below n k v)))

  over_base : (k : ℕ) → In n.arcs k → 0 < user_count n k → base n e k ≤ sum_below n over k
  unfolding whole_cost
  over_base k i some =
      elim (dec_lt (user_count n k) (member_count n)) [
        | yes h ↦
            omega (arith, has_parts k i some h, pick_yes e (lt-ltb (user_count n k) (member_count n) h))
        | no h ↦
            omega (
              arith,
              all_over k h,
              over_total,
              pick_no e (le-ltb (user_count n k) (member_count n) (omega arith)),
              sum_below_le n n.cost k,
              whole_is_need n rooted b br free,
            )
      ]

  pub bound_possible : raised n e b ≤ need n b
  bound_possible =
      omega (
        arith,
        raised_least n rooted e (sum_below n over) over_base
            (λ k i. omega (arith, sum_below_children n rooted over k i)) b br.arc,
        sum_below_le n over b,
        over_total,
      )

  -- a member's share is at least e
  pub bound_le_need : e ≤ need n b
  bound_le_need =
      let v = vertex_of n.member n.arcs 0 (omega (arith, two)) in
      omega (arith, own_parts v.vertex v.within v.is_member, sum_below_le n over v.vertex, over_total)
