-- The distance from the Shapley value of any division that gives each arc's cost evenly to its users.
use Prim.Native.Nat.{ℕ, ◌+◌, ◌*◌, ◌-◌, ◌/◌, ◌%◌, ◌≤◌, ◌<◌, zero-le}
use mathlib.Core.Path.{◌≡◌, sym, ap, ◌∙◌}
use mathlib.Core.Bool.{Bool, true, false}
use mathlib.Core.Logic.{⊎_elim}
use native.Mathlib.Nat.{mul-zero, mul-le-mul_left, div-add-mod, mod-lt}
use native.Mathlib.Decide.{ℕ_discrete}
use native.Mathlib.Omega.{arith}
use borrow.Author.Tests.{ne_eqb}
use lib.Dec.{eqb}
use Rattle.basics.specs.Sum.{pick, sum, count}
use Rattle.game.specs.Network.{Network, member_count}
use Rattle.game.specs.Core.{users}
use Rattle.game.specs.ByArc.{user_count}
use Rattle.game.specs.Shapley.{factorial, shapley, path_length, Even, Within}
use Rattle.basics.proofs.Bools.{both, pick_yes, pick_no, pick_le}
use Rattle.basics.proofs.Sums.{In, sum_mono, sum_add, sum_times, sum_count, term_le, sum₀_mono, sum₀_add, sum₀_at}
use Rattle.basics.proofs.Sizes.{size_times}
use Rattle.game.proofs.Below.{Rooted, below_self}
use Rattle.game.proofs.Numbering.{vertex_of}
use Rattle.game.proofs.Bounds.{users_at}
use Rattle.game.proofs.Weights.{factorial_pos}
use Rattle.game.proofs.Shapley.{user_count_pos, whole_part, shapley_by_arcs}

-- a gift x at an arc with cost c and k users, times k
gift_near : (k q r c x : ℕ) → k * q + r ≡ c → r < k → q ≤ x → x ≤ q + 1 → q * k + (x - q) ≤ c → Within k (k * x) c
gift_near k q r c x split small least most more =
    elim (ℕ_discrete x q) [
      | yes e ↦ rw e (record { above = omega arith; below = omega arith })
      | no e ↦ let d : x ≡ q + 1 = omega arith in rw d (record { above = omega arith; below = omega arith })
    ]

-- the same times n!, with f for n! and w for n! / k
gift_near_times : (k w f c x : ℕ) → k * w ≡ f → 0 < f → Within k (k * x) c → Within f (f * x) (c * w)
gift_near_times k w f c x e pos near =
    elim (ℕ_discrete w 0) [
      | yes z ↦ absurd (omega (arith, rw (z, mul-zero) at e))
      | no z ↦ rw (← e)
          (record {
            above = omega (arith, mul-le-mul_left w near.above);
            below = omega (arith, mul-le-mul_left w near.below);
          })
    ]

-- terms that are less than d above others where the test holds, and equal elsewhere
sum_above : (m d : ℕ) (u : ℕ → Bool) (f h : ℕ → ℕ) → ((k : ℕ) → In m k → u k ≡ true → f k < h k + d)
    → ((k : ℕ) → In m k → u k ≡ false → f k ≡ h k)
    → 0 < count m u → sum m f < sum m h + d * count m u
sum_above m d u f h picked rest some =
    omega (
      arith,
      sum_mono m {f = λ k. f k + pick (u k) 1} {g = λ k. h k + pick (u k) d} term,
      sum_add m f (λ k. pick (u k) 1),
      sum_add m h (λ k. pick (u k) d),
      sum_count m d u,
    )
  where
    term : (k : ℕ) → In m k → f k + pick (u k) 1 ≤ h k + pick (u k) d
    term k i =
        ⊎_elim
        (λ (e : u k ≡ true). rw e (omega (arith, picked k i e)))
        (λ (e : u k ≡ false). rw e (omega (arith, rest k i e)))
        (both (u k))

module _ (n : Network) (i : ℕ) (h : i < member_count n) where
  -- after the least for every user, what i gets above it is left of the cost
  left_over : (k : ℕ) (g : ℕ → ℕ) → Even n k g → users n k i ≡ true
      → n.cost k / user_count n k * user_count n k + (g i - n.cost k / user_count n k) ≤ n.cost k
  left_over k g even u =
      let q = n.cost k / user_count n k in
      omega (
        arith,
        even.all,
        sum₀_mono (member_count n) {f = λ j. pick (users n k j) q + pick (eqb i j) (g i - q)} {g = g} (λ j l. term j),
        sum₀_add (member_count n) (λ j. pick (users n k j) q) (λ j. pick (eqb i j) (g i - q)),
        size_times (member_count n) q (users n k),
        sum₀_at (member_count n) i (λ j. g i - q) h,
      )
    where
      others : (j : ℕ) → pick (users n k j) (n.cost k / user_count n k) ≤ g j
      others j =
          ⊎_elim
          (λ (e : users n k j ≡ true). rw e (even.least j e))
          (λ (e : users n k j ≡ false). rw e zero-le)
          (both (users n k j))

      term : (j : ℕ)
          → pick (users n k j) (n.cost k / user_count n k) + pick (eqb i j) (g i - n.cost k / user_count n k) ≤ g j
      term j =
          elim (ℕ_discrete i j) [
            | yes e ↦
                rw (← e)
                (omega (
                  arith,
                  even.least i u,
                  pick_le (users n k i) (n.cost k / user_count n k),
                  pick_le (eqb i i) (g i - n.cost k / user_count n k),
                ))
            | no e ↦ omega (arith, others j, pick_no (g i - n.cost k / user_count n k) (ne_eqb i j e))
          ]

  -- at an arc of the member's path
  arc_near : (k : ℕ) (g : ℕ → ℕ) → Even n k g → users n k i ≡ true
      → Within (factorial (member_count n)) (factorial (member_count n) * g i)
      (n.cost k * (factorial (member_count n) / user_count n k))
  arc_near k g even u =
      let pos = user_count_pos n k i h u in
      let w = factorial (member_count n) / user_count n k in
      gift_near_times (user_count n k) w (factorial (member_count n)) (n.cost k) (g i) (whole_part n k pos)
      (factorial_pos (member_count n))
      (gift_near (user_count n k) (n.cost k / user_count n k) (n.cost k % user_count n k) (n.cost k) (g i)
      (div-add-mod (n.cost k) (user_count n k))
      (mod-lt (n.cost k) pos) (even.least i u) (even.most i u) (left_over k g even u))

  -- the path has the member's own arc
  path_pos : Rooted n → 0 < path_length n i
  path_pos rooted =
      let v = vertex_of n.member n.arcs i h in
      let own = sym (ap (users n v.vertex) v.numbered)
      ∙ users_at n v.vertex v.vertex v.within v.is_member ∙ below_self n rooted v.vertex in
      omega (arith, term_le n.arcs v.vertex (λ k. pick (users n k i) 1) v.within, pick_yes 1 own)

  pub even_near : Rooted n → (g : ℕ → ℕ → ℕ) → ((k : ℕ) → In n.arcs k → Even n k (g k))
      → Within (factorial (member_count n) * path_length n i) (factorial (member_count n) * sum n.arcs (λ k. g k i))
      (shapley n i)
  even_near rooted g even =
      rw (shapley_by_arcs n i h, sum_times n.arcs (factorial (member_count n)) (λ k. g k i))
      (record {
        above =
            sum_above n.arcs (factorial (member_count n)) (λ k. users n k i) given exact
            (λ k j u. (on k j u).above) off (path_pos rooted);
        below =
            sum_above n.arcs (factorial (member_count n)) (λ k. users n k i) exact given (λ k j u. (on k j u).below)
            (λ k j u. sym (off k j u)) (path_pos rooted);
      })
    where
      given : ℕ → ℕ
      given k = factorial (member_count n) * g k i

      exact : ℕ → ℕ
      exact k = pick (users n k i) (n.cost k * (factorial (member_count n) / user_count n k))

      on : (k : ℕ) → In n.arcs k → users n k i ≡ true → Within (factorial (member_count n)) (given k) (exact k)
      on k j u = rw u (arc_near k (g k) (even k j) u)

      off : (k : ℕ) → In n.arcs k → users n k i ≡ false → given k ≡ exact k
      off k j u = rw (u, (even k j).others i u) (mul-zero (factorial (member_count n)))
