-- The widest margin on a network whose members, two or more, all use arc b from the source.
--
--   margin_length                 the split has one share a member
--   margin_sum, margin_total      the shares add up to the need of arc b
--   margin_meets                  the users of every arc have at least its need
--   margin_all                    every proper nonempty group has at least the widest margin
--   margin_greatest               at a greater margin the raised need of arc b is above its need
--   margin_none_wider             in every other split some proper nonempty group has at most that
use Prim.Native.Nat.{ℕ, suc, ◌+◌, ◌≤◌, ◌<◌}
use mathlib.Core.Path.{◌≡◌, sym, ap, ◌∙◌}
use mathlib.Core.Bool.{Bool, true, false, ◌&&◌}
use mathlib.Core.Logic.{⊎_elim}
use mathlib.Core.List.{List, map}
use native.Mathlib.Decide.{dec_le, dec_lt}
use native.Mathlib.Omega.{arith}
use borrow.Author.Tests.{ltb-true, lt-ltb}
use lib.ListN.{length, get_or}
use lib.IntN.{ℤ, pos}
use lib.Signed.{◌≤ℤ◌, lt_z}
use lib.Dec.{ltb}
use Rattle.basics.specs.Sum.{pick, sum, some}
use Rattle.game.specs.Network.{Network, at_or_below, used, everyone, sum_below, need, number, member_count}
use Rattle.game.specs.Proposal.{pays}
use Rattle.game.specs.Core.{users}
use Rattle.game.specs.ByArc.{user_count}
use Rattle.game.specs.Margin.{own_cost, group_margin, Proper, raised, widest, shares_at}
use Rattle.basics.proofs.Bools.{both, clash, not_so, and_both, and_first, and_second, pick_yes, pick_pos}
use Rattle.basics.proofs.Sums.{In, Some, some_of, some_is, sum_more_some}
use Rattle.basics.proofs.Integers.{Less, less_parts, less_minus, less_le, lt_z_true, lt_z_false}
use Rattle.game.proofs.Below.{Rooted}
use Rattle.game.proofs.Excess.{MembersEnd}
use Rattle.game.proofs.Counted.{UnusedFree}
use Rattle.game.proofs.Unused.{unused_need}
use Rattle.game.proofs.Numbering.{vertex_of}
use Rattle.game.proofs.Bounds.{users_at}
use Rattle.game.proofs.Overpayment.{number_lt, group_sum, by_vertex, over_at, under_at, less_pays}
use Rattle.game.proofs.NaturalShares.{pays_pos}
use Rattle.game.proofs.UserSums.{ones, users_count, count_own, someone_uses}
use Rattle.game.proofs.ByArc.{used_count}
use Rattle.game.proofs.LevelList.{view, view_off}
use Rattle.game.proofs.LevelBounds.{bound_above, free_stands, free_has, free_total}
use Rattle.game.proofs.Branched.{Branched, all_users, from_source_alone, whole_is_need}
use Rattle.game.proofs.Raised.{raised_unused, raised_base, raised_grows, widest_passes, widest_most}
use Rattle.game.proofs.OwnCost.{need_le_own}
use Rattle.game.proofs.MarginKept.{margin_kept}
use Rattle.game.proofs.MarginBound.{bound_possible, bound_le_need}

-- an arc with users that not all members use: its users are a proper nonempty group
module _ (n : Network) (k : ℕ) (some_use : 0 < user_count n k) (not_all : user_count n k < member_count n) where
  non_user : Some n.arcs (λ v. ltb (pick (at_or_below n k v) (ones n v)) (ones n v))
  unfolding sum_below
  non_user =
      sum_more_some n.arcs (λ v. pick (at_or_below n k v) (ones n v)) (ones n) (omega (arith, users_count n k))

  users_proper : Proper n (users n k)
  users_proper =
      let s = someone_uses n k some_use in
      let v = s.by in
      let m = and_first (n.member v) (at_or_below n k v) s.uses in
      let w = non_user.which in
      let less = ltb-true (pick (at_or_below n k w) (ones n w)) (ones n w) non_user.passes in
      let w_member = (pick_pos (n.member w) 1 (omega arith)).0 in
      record {
        member = number n v;
        is_member = number_lt n v s.within m;
        inside = users_at n k v s.within m ∙ and_second (n.member v) (at_or_below n k v) s.uses;
        other = number n w;
        is_other = number_lt n w non_user.within w_member;
        outside =
            users_at n k w non_user.within w_member
            ∙ not_so (at_or_below n k w) (λ below. omega (arith, pick_yes (ones n w) below));
      }

module _ (n : Network) (rooted : Rooted n) (ends : MembersEnd n) (free : UnusedFree n) (b : ℕ) (br : Branched n b)
    (two : 2 ≤ member_count n) where
  some_users : 0 < user_count n b
  some_users = omega (arith, all_users n rooted b br, two)

  d : ℕ
  d = widest n b

  shares : List ℕ
  shares = shares_at n d

  unused_none : (k : ℕ) → In n.arcs k → user_count n k ≡ 0 → raised n d k ≡ 0
  unused_none = raised_unused n rooted d

  pub margin_length : length (shares_at n (widest n b)) ≡ member_count n
  unfolding d
  margin_length = (free_stands n rooted (raised n d) (raised_grows n rooted d) unused_none).sized

  raised_met : (k : ℕ) → In n.arcs k → raised n d k ≤ sum_below n (view n shares) k
  unfolding shares
  raised_met = free_has n rooted (raised n d) (raised_grows n rooted d) unused_none

  pub margin_sum : sum n.arcs (view n (shares_at n (widest n b))) ≡ need n b
  unfolding shares d
  margin_sum =
      free_total n rooted (raised n d) (raised_grows n rooted d) unused_none
      ∙ from_source_alone n rooted b br (raised n d) unused_none
      ∙ widest_passes n rooted b br.arc some_users

  pays_view : (g : ℕ → Bool) → pays n (map pos shares) g ≡ pos (group_sum n (view n shares) g)
  pays_view g = pays_pos n shares g ∙ ap pos (by_vertex n g (λ j. get_or shares j 0))

  less_view : (g : ℕ → Bool) → Less (pays n (map pos shares) g) (group_sum n (view n shares) g) 0
  less_view g = rw (pays_view g) (less_parts (pos (group_sum n (view n shares) g)))

  pub margin_total : pays n (map pos (shares_at n (widest n b))) (λ j. true) ≡ pos (need n b)
  unfolding shares d
  margin_total = pays_view (λ j. true) ∙ ap pos margin_sum

  pub margin_meets : (k : ℕ) → In n.arcs k → need n k ≤ sum_below n (view n (shares_at n (widest n b))) k
  unfolding shares d
  margin_meets k i =
      elim (dec_lt 0 (user_count n k)) [
        | yes h ↦ omega (arith, raised_met k i, raised_base n rooted d k i h)
        | no h ↦
            omega (
              arith,
              unused_need n rooted k (not_so (used n everyone k) (λ u. omega (arith, used_count n k u))) free,
            )
      ]

  pub margin_all : (g : ℕ → Bool) → Proper n g
      → pos (widest n b) ≤ℤ group_margin n (map pos (shares_at n (widest n b))) g
  unfolding shares d
  margin_all g proper =
      less_le (pos d) (group_margin n (map pos shares) g) (less_parts (pos d))
      (less_minus (pays n (map pos shares) g) (pos (own_cost n g)) (less_view g) (less_parts (pos (own_cost n g))))
      (omega (
        arith,
        margin_kept n rooted ends free (view n shares) (view_off n shares)
            (margin_sum ∙ sym (whole_is_need n rooted b br free)) d
            (λ k i h. omega (arith, raised_met k i, raised_base n rooted d k i h)) g proper,
      ))

  -- no greater margin is possible: a member's own arc alone would have as much
  pub margin_greatest : (e : ℕ) → widest n b < e → need n b < raised n e b
  margin_greatest e more =
      let v = vertex_of n.member n.arcs 0 (omega (arith, two)) in
      let one = count_own n rooted ends v.vertex v.within v.is_member in
      elim (dec_le (raised n e b) (need n b)) [
        | yes h ↦
            absurd
            (omega (
              arith,
              widest_most n rooted b br.arc some_users e
                  (omega (
                    arith,
                    raised_base n rooted e v.vertex v.within (omega (arith, one)),
                    pick_yes e (lt-ltb (user_count n v.vertex) (member_count n) (omega (arith, one, two))),
                    bound_above n rooted (raised n e) (raised_grows n rooted e) b v.vertex br.arc v.within
                        (br.all_use v.vertex v.within v.is_member),
                  ))
                  h,
            ))
        | no h ↦ omega arith
      ]

  -- any other split
  module _ (other : List ℤ) (adds : pays n other (λ j. true) ≡ pos (need n b)) where
    -- an arc with users, not all of them, who pay less than its need and one more than the widest margin
    lacks : ℕ → Bool
    lacks k =
        ltb 0 (user_count n k)
        && (ltb (user_count n k) (member_count n) && lt_z (pays n other (users n k)) (pos (need n k + suc d)))

    -- its users are a group with at most the widest margin
    at_arc : Some n.arcs lacks → (g : ℕ → Bool) × Proper n g × (group_margin n other g ≤ℤ pos d)
    unfolding lacks
    at_arc s =
        let k = s.which in
        let first = ltb 0 (user_count n k) in
        let second = ltb (user_count n k) (member_count n) in
        let third = lt_z (pays n other (users n k)) (pos (need n k + suc d)) in
        let both_others = and_second first (second && third) s.passes in
        let is_less = and_second second third both_others in
        let less = lt_z_true (pays n other (users n k)) (pos (need n k + suc d)) is_less in (
          users n k,
          users_proper n k (ltb-true 0 (user_count n k) (and_first first (second && third) s.passes))
              (ltb-true (user_count n k) (member_count n) (and_first second third both_others)),
          at_most k less.1,
        )
      where
        at_most : (k : ℕ) → (pos (need n k + suc d) ≤ℤ pays n other (users n k) → ⊥)
            → group_margin n other (users n k) ≤ℤ pos d
        at_most k not_more =
            let x = pays n other (users n k) in
            let paid = less_pays n other (users n k) in
            let own = own_cost n (users n k) in
            elim (dec_le (need n k + suc d + group_sum n (under_at n other) (users n k))
            (group_sum n (over_at n other) (users n k))) [
              | yes h ↦ absurd (not_more (less_le (pos (need n k + suc d)) x (less_parts (pos (need n k + suc d))) paid
                  (omega arith)))
              | no h ↦
                  less_le (group_margin n other (users n k)) (pos d) (less_minus x (pos own) paid (less_parts (pos own)))
                  (less_parts (pos d)) (omega (arith, need_le_own n free rooted k))
            ]

    -- where there is no such arc
    pays_enough : some n.arcs lacks ≡ false → (k : ℕ) → In n.arcs k → 0 < user_count n k
        → user_count n k < member_count n → pos (need n k + suc d) ≤ℤ pays n other (users n k)
    unfolding lacks
    pays_enough none k i some_use few =
        lt_z_false (pays n other (users n k)) (pos (need n k + suc d))
        (not_so (lt_z (pays n other (users n k)) (pos (need n k + suc d)))
        (λ less.
        clash
        (some_of n.arcs k lacks i
        (and_both (lt-ltb 0 (user_count n k) some_use)
        (and_both (lt-ltb (user_count n k) (member_count n) few) less)))
        none))

    pub margin_none_wider : (g : ℕ → Bool) × Proper n g × (group_margin n other g ≤ℤ pos (widest n b))
    unfolding d
    margin_none_wider =
        ⊎_elim
        (λ (e : some n.arcs lacks ≡ true). at_arc (some_is n.arcs lacks e))
        (λ (e : some n.arcs lacks ≡ false).
        absurd
        (omega (
          arith,
          widest_most n rooted b br.arc some_users (suc d)
              (bound_le_need n rooted ends free b br two other adds (suc d) (pays_enough e))
              (bound_possible n rooted ends free b br two other adds (suc d) (pays_enough e)),
        )))
        (both (some n.arcs lacks))
