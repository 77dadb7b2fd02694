-- Laws of the raised needs and of the widest margin.
--
--   raised_is                    by those of the child arcs
--   raised_unused, raised_used   of an arc without users, and with users
--   raised_base, raised_grows    at least the need, with the margin; at least those of the child arcs together
--   raised_least                 the least numbers with these two laws
--   raised_mono, raised_none     at a greater margin; at margin 0 at most the need
--   raised_limit                 at most the costs and a margin an arc
--   widest_passes, widest_most   at the widest margin the raised need of arc b is its need; none that is greater
--   widest_is                    so it is the one that passes and whose next does not
use Prim.Native.Nat.{ℕ, suc, ◌+◌, ◌≤◌, ◌<◌, max}
use mathlib.Core.Path.{◌≡◌, ◌∙◌}
use mathlib.Core.Bool.{Bool, true}
use native.Mathlib.Decide.{dec_lt}
use native.Mathlib.Omega.{arith}
use borrow.Author.Tests.{eqb-true, eq-eqb, lt-ltb, le-ltb}
use lib.Dec.{eqb, ltb}
use Rattle.basics.specs.Sum.{pick}
use Rattle.game.specs.Network.{Network, at_or_below, sum_below, need, member_count}
use Rattle.game.specs.ByArc.{user_count}
use Rattle.game.specs.Inward.{of_children}
use Rattle.game.specs.Margin.{raised_by, raised, widest}
use Rattle.basics.proofs.Bools.{pick_yes, pick_no, pick_same, pick_zero, pick_add, pick_le, pick_both_le}
use Rattle.basics.proofs.Sums.{In, sum_cong, sum_add, sum_zero, term_le}
use Rattle.game.proofs.Below.{Rooted, below_self, sum_below_children}
use Rattle.game.proofs.Inward.{from_leaves, children_mono, inward_is}
use Rattle.game.proofs.UserSums.{count_children}
use Rattle.game.proofs.PathKeys.{greatest_le, greatest_passes, greatest_most}

-- what arc k's users are to have for themselves at margin d
abbrev pub base : Network → ℕ → ℕ → ℕ
base n d k = need n k + pick (ltb (user_count n k) (member_count n)) d

module _ (n : Network) (rooted : Rooted n) where
  -- a child arc has at most as many users as the arc
  pub fewer_users : (k u : ℕ) → In n.arcs k → In n.arcs u → n.parent u ≡ k → user_count n u ≤ user_count n k
  fewer_users k u i j e =
      omega (
        arith,
        count_children n rooted k i,
        term_le n.arcs u (λ c. pick (eqb (n.parent c) k) (user_count n c)) j,
        pick_yes (user_count n u) (eq-eqb (n.parent u) k e),
      )

  module _ (d : ℕ) where
    pub raised_is : (k : ℕ) → In n.arcs k → raised n d k ≡ raised_by n d k (of_children n (raised n d) k)
    raised_is = inward_is n rooted (raised_by n d)

    pub raised_unused : (k : ℕ) → In n.arcs k → user_count n k ≡ 0 → raised n d k ≡ 0
    raised_unused k i none =
        raised_is k i
        ∙ pick_no (max (base n d k) (of_children n (raised n d) k)) (le-ltb 0 (user_count n k) (omega arith))

    pub raised_used : (k : ℕ) → In n.arcs k → 0 < user_count n k
        → raised n d k ≡ max (base n d k) (of_children n (raised n d) k)
    raised_used k i some =
        raised_is k i ∙ pick_yes (max (base n d k) (of_children n (raised n d) k)) (lt-ltb 0 (user_count n k) some)

    pub raised_base : (k : ℕ) → In n.arcs k → 0 < user_count n k → base n d k ≤ raised n d k
    raised_base k i some = omega (arith, raised_used k i some)

    pub raised_grows : (k : ℕ) → In n.arcs k → of_children n (raised n d) k ≤ raised n d k
    raised_grows k i =
        elim (dec_lt 0 (user_count n k)) [
          | yes h ↦ omega (arith, raised_used k i h)
          | no h ↦ omega (
            arith,
            sum_zero n.arcs {f = λ u. pick (eqb (n.parent u) k) (raised n d u)}
                (λ u j.
                pick_same (eqb (n.parent u) k)
                (λ e. raised_unused u j (omega (arith, fewer_users k u i j (eqb-true (n.parent u) k e))))
                ∙ pick_zero (eqb (n.parent u) k)),
          )
        ]

    pub raised_least : (f : ℕ → ℕ) → ((k : ℕ) → In n.arcs k → 0 < user_count n k → base n d k ≤ f k)
        → ((k : ℕ) → In n.arcs k → of_children n f k ≤ f k)
        → (k : ℕ) → In n.arcs k → raised n d k ≤ f k
    raised_least f has grows =
        from_leaves n rooted (λ k. raised n d k ≤ f k)
        (λ k i ih.
        elim (dec_lt 0 (user_count n k)) [
          | yes h ↦
              omega
              (arith, raised_used k i h, has k i h, grows k i, children_mono n (raised n d) f k (λ u j e. ih u j e))
          | no h ↦ omega (arith, raised_unused k i (omega arith))
        ])

  pub raised_mono : (d e : ℕ) → d ≤ e → (k : ℕ) → In n.arcs k → raised n d k ≤ raised n e k
  raised_mono d e h =
      raised_least d (raised n e)
      (λ k i some.
      omega (arith, raised_base e k i some, pick_both_le (ltb (user_count n k) (member_count n)) {x = d} {y = e} h))
      (raised_grows e)

  pub raised_none : (k : ℕ) → In n.arcs k → raised n 0 k ≤ need n k
  raised_none =
      raised_least 0 (need n)
      (λ k i some. omega (arith, pick_zero (ltb (user_count n k) (member_count n))))
      (λ k i. omega (arith, sum_below_children n rooted n.cost k i))

  -- the arc itself is one of those at or below it
  base_limit : (d k : ℕ) → In n.arcs k → base n d k ≤ sum_below n (λ v. n.cost v + d) k
  unfolding sum_below
  base_limit d k i =
      omega (
        arith,
        sum_cong n.arcs (λ v j. pick_add (at_or_below n k v) (n.cost v) d),
        sum_add n.arcs (λ v. pick (at_or_below n k v) (n.cost v)) (λ v. pick (at_or_below n k v) d),
        term_le n.arcs k (λ v. pick (at_or_below n k v) d) i,
        pick_yes d (below_self n rooted k),
        pick_le (ltb (user_count n k) (member_count n)) d,
      )

  -- never more than the costs and as many margins as there are arcs
  pub raised_limit : (d k : ℕ) → In n.arcs k → raised n d k ≤ sum_below n (λ v. n.cost v + d) k
  raised_limit d =
      raised_least d (sum_below n (λ v. n.cost v + d)) (λ k i some. base_limit d k i)
      (λ k i. omega (arith, sum_below_children n rooted (λ v. n.cost v + d) k i))

  module _ (b : ℕ) (i : In n.arcs b) (some : 0 < user_count n b) where
    test : ℕ → Bool
    test d = eqb (raised n d b) (need n b)

    -- a margin is possible where the raised need is no more than the need
    possible : (d : ℕ) → raised n d b ≤ need n b → test d ≡ true
    unfolding test
    possible d h = eq-eqb (raised n d b) (need n b) (omega (arith, raised_base d b i some))

    pub widest_passes : raised n (widest n b) b ≡ need n b
    unfolding widest test
    widest_passes =
        eqb-true (raised n (widest n b) b) (need n b)
        (greatest_passes test (possible 0 (raised_none b i)) (need n b))

    pub widest_le : widest n b ≤ need n b
    unfolding widest test
    widest_le = greatest_le test (need n b)

    pub widest_most : (d : ℕ) → d ≤ need n b → raised n d b ≤ need n b → d ≤ widest n b
    unfolding widest test
    widest_most d l h = greatest_most test (need n b) d l (possible d h)

    pub widest_is : (d : ℕ) → d ≤ need n b → raised n d b ≤ need n b
        → (suc d ≤ need n b → raised n (suc d) b ≤ need n b → ⊥) → d ≡ widest n b
    widest_is d l h next =
        elim (dec_lt d (widest n b)) [
          | yes m ↦ absurd
              (next (omega (arith, widest_le))
              (omega (arith, widest_passes, raised_mono (suc d) (widest n b) m b i)))
          | no m ↦ omega (arith, widest_most d l h)
        ]
