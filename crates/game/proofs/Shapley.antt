-- Theorem 1 of the paper: the Shapley value divides each arc's cost equally among its users.
use Prim.Native.Nat.{ℕ, ◌+◌, ◌*◌, ◌/◌, ◌<◌}
use mathlib.Core.Path.{◌≡◌, refl, sym, ap, ◌∙◌}
use mathlib.Core.Bool.{Bool, true, false, not, ◌||◌, false≢true}
use mathlib.Core.List.{List}
use native.Mathlib.Nat.{mul-zero, mul_comm, div-eq_of_eq-mul_right}
use native.Mathlib.Omega.{arith}
use lib.Dec.{eqb}
use Rattle.basics.specs.Sum.{pick, sum, size}
use Rattle.game.specs.Network.{Network, used, group_cost, member_count}
use Rattle.game.specs.Group.{group_by_number}
use Rattle.game.specs.Search.{groups, is_in}
use Rattle.game.specs.Core.{users}
use Rattle.game.specs.ByArc.{user_count}
use Rattle.game.specs.Shapley.{factorial, adds, weight, shapley}
use Rattle.basics.proofs.Bools.{pick_yes, pick_same}
use Rattle.basics.proofs.Sums.{sum_cong, sum_add, sum_times, sum_pick, term₀_le}
use Rattle.game.proofs.Meets.{meets, meets_of, meets_more, used_by_number}
use Rattle.game.proofs.GroupSums.{over_cong, over_times, over_pick, over_sum}
use Rattle.game.proofs.Weights.{weights_avoiding, weights_sum}

-- what a test picks, and what a second one adds to it
pick_more : (m u : Bool) (x : ℕ) → pick (m || u) x ≡ pick m x + pick u (pick (not m) x)
pick_more true true x = omega arith
pick_more true false x = omega arith
pick_more false u x = omega arith

-- a weight times an amount, where b and u never hold without m
pick_weight : (b u m : Bool) (w x : ℕ) → (b ≡ true → u ≡ true → m ≡ true)
    → pick (not b) (w * pick u (pick (not m) x)) ≡ pick u (x * pick (not m) w)
pick_weight true true true w x h = sym (mul-zero x)
pick_weight true true false w x h = absurd (false≢true (h refl refl))
pick_weight true false m w x h = refl
pick_weight false true true w x h = mul-zero w ∙ sym (mul-zero x)
pick_weight false true false w x h = mul_comm w x
pick_weight false false m w x h = mul-zero w

module _ (n : Network) where
  pub user_count_pos : (k j : ℕ) → j < member_count n → users n k j ≡ true → 0 < user_count n k
  unfolding size
  user_count_pos k j h u = omega (arith, term₀_le (member_count n) j (λ i. pick (users n k i) 1) h, pick_yes 1 u)

  -- n! over the number of an arc's users
  part_is : (k : ℕ) → 0 < user_count n k
      → factorial (member_count n) / user_count n k ≡ weights_avoiding (member_count n) (users n k)
  part_is k h = div-eq_of_eq-mul_right h (sym (weights_sum (member_count n) (users n k) h))

  pub whole_part : (k : ℕ) → 0 < user_count n k
      → user_count n k * (factorial (member_count n) / user_count n k) ≡ factorial (member_count n)
  whole_part k h = ap (λ (x : ℕ). user_count n k * x) (part_is k h) ∙ weights_sum (member_count n) (users n k) h

  module _ (i : ℕ) (h : i < member_count n) where
    -- the group uses arc k
    abbrev uses : (ℕ → Bool) → ℕ → Bool
    uses g k = meets (member_count n) g (users n k)

    -- what member i adds at arc k: the cost, where i uses the arc and the group does not
    abbrev added : (ℕ → Bool) → ℕ → ℕ
    added g k = pick (users n k i) (pick (not (uses g k)) (n.cost k))

    adds_is : (g : ℕ → Bool) → adds n i g ≡ sum n.arcs (added g)
    unfolding group_cost
    adds_is g =
        let more : group_cost n (group_by_number n (λ j. g j || eqb j i))
        ≡ group_cost n (group_by_number n g) + sum n.arcs (added g) =
        sum_cong n.arcs (λ k j. one_arc k)
        ∙ sum_add n.arcs (λ k. pick (used n (group_by_number n g) k) (n.cost k)) (added g) in
        omega arith
      where
        one_arc : (k : ℕ)
            → pick (used n (group_by_number n (λ j. g j || eqb j i)) k) (n.cost k)
            ≡ pick (used n (group_by_number n g) k) (n.cost k) + added g k
        one_arc k =
            ap (λ (b : Bool). pick b (n.cost k))
            (used_by_number n (λ j. g j || eqb j i) k ∙ meets_more (member_count n) g (users n k) i h)
            ∙ pick_more (uses g k) (users n k i) (n.cost k)
            ∙ ap (λ (b : Bool). pick b (n.cost k) + added g k) (sym (used_by_number n g k))

    -- one group's term of the value, arc by arc
    one_group : (g : List Bool)
        → pick (not (is_in g i)) (weight (member_count n) (is_in g) * adds n i (is_in g))
        ≡ sum n.arcs
        (λ k. pick (users n k i) (n.cost k * pick (not (uses (is_in g) k)) (weight (member_count n) (is_in g))))
    one_group g =
        let w = weight (member_count n) (is_in g) in
        ap (λ (x : ℕ). pick (not (is_in g i)) (w * x)) (adds_is (is_in g))
        ∙ ap (pick (not (is_in g i))) (sum_times n.arcs w (added (is_in g)))
        ∙ sym (sum_pick (not (is_in g i)) n.arcs (λ k. w * added (is_in g) k))
        ∙ sum_cong n.arcs
        (λ k j. pick_weight (is_in g i) (users n k i) (uses (is_in g) k) w (n.cost k)
        (λ e u. meets_of (record { which = i; below = h; one = e; other = u })))

    pub shapley_by_arcs : shapley n i
        ≡ sum n.arcs (λ k. pick (users n k i) (n.cost k * (factorial (member_count n) / user_count n k)))
    unfolding shapley weights_avoiding
    shapley_by_arcs =
        over_cong (groups (member_count n)) one_group
        ∙ over_sum n.arcs
        (λ k g. pick (users n k i) (n.cost k * pick (not (uses (is_in g) k)) (weight (member_count n) (is_in g))))
        (groups (member_count n))
        ∙ sum_cong n.arcs
        (λ k j.
        over_pick (users n k i) (λ g. n.cost k * pick (not (uses (is_in g) k)) (weight (member_count n) (is_in g)))
        (groups (member_count n))
        ∙ pick_same (users n k i)
        (λ u.
        over_times (n.cost k) (λ g. pick (not (uses (is_in g) k)) (weight (member_count n) (is_in g)))
        (groups (member_count n))
        ∙ ap (λ (x : ℕ). n.cost k * x) (sym (part_is k (user_count_pos k i h u)))))
