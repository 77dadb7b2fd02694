-- Where each arc's users begin in depth-first order: every arc's users, and all members, stand side by side.
use Prim.Native.Nat.{ℕ, zero, suc, ◌+◌, ◌≤◌}
use mathlib.Core.Path.{◌≡◌, refl, ap, ◌∙◌}
use mathlib.Core.Bool.{true, false}
use mathlib.Core.Logic.{⊎_elim}
use native.Mathlib.Omega.{arith}
use borrow.Author.Tests.{eqb-true, eq-eqb}
use lib.Dec.{eqb}
use Rattle.basics.specs.Sum.{pick, sum, sum₀}
use Rattle.game.specs.Network.{Network, sum_below, member_count}
use Rattle.game.specs.ByArc.{user_count}
use Rattle.basics.proofs.Bools.{both, pick_yes, pick_no}
use Rattle.basics.proofs.Sums.{In, sum_longer}
use Rattle.game.proofs.Below.{Rooted, from_source, child_after, sum_below_children, sum_from_source}
use Rattle.game.proofs.Excess.{MembersEnd}
use Rattle.game.proofs.Core.{own_sum}
use Rattle.users.specs.Layout.{leaving, Begins}
use Rattle.game.proofs.UserSums.{count_children, count_from_source, count_own}

-- g at the places before x
abbrev pub before : (ℕ → ℕ) → ℕ → ℕ
before g x = sum₀ x g

module _ (n : Network) (start : ℕ → ℕ) where
  -- how many users those of the arcs 1 to i have that leave vertex p
  abbrev taken : ℕ → ℕ → ℕ
  taken = leaving n.parent (user_count n)

  -- g at the places of an arc's users
  abbrev at_users : (ℕ → ℕ) → ℕ → ℕ
  at_users g = sum_below n (λ v. pick (n.member v) (g (start v)))

  -- by a sum of g over them: the places of arc v's users are the `user_count` many from its start on
  abbrev Filled : (ℕ → ℕ) → ℕ → Type 0
  Filled g v = before g (start v) + at_users g v ≡ before g (start v + user_count n v)

  module _ (rooted : Rooted n) (begins : Begins n.arcs n.parent (user_count n) start) where
    module _ (ends : MembersEnd n) (g : ℕ → ℕ) where
      -- the child arcs of p one after the other
      in_line : (p : ℕ) → ((c : ℕ) → In n.arcs c → n.parent c ≡ p → Filled g c) → (i : ℕ) → i ≤ n.arcs
          → before g (start p) + leaving n.parent (at_users g) p i ≡ before g (start p + taken p i)
      in_line p filled zero h = let e : start p + 0 ≡ start p = omega arith in rw e (omega arith)
      in_line p filled (suc i) h =
          let so_far = in_line p filled i (omega arith) in
          ⊎_elim
          (λ (e : eqb (n.parent (suc i)) p ≡ true).
          let is_p = eqb-true (n.parent (suc i)) p e in
          let at : start (suc i) ≡ start p + taken p i = begins.after i h ∙ ap (λ (q : ℕ). start q + taken q i) is_p in
          let end : start p + (taken p i + user_count n (suc i)) ≡ start (suc i) + user_count n (suc i) = omega arith in
          rw (e, end) (omega (arith, so_far, ap (before g) at, filled (suc i) (omega arith) is_p)))
          (λ (e : eqb (n.parent (suc i)) p ≡ false).
          let end : start p + (taken p i + 0) ≡ start p + taken p i = omega arith in
          rw (e, end) (omega (arith, so_far)))
          (both (eqb (n.parent (suc i)) p))

      -- v itself, where it is a member, or else its child arcs
      filled_at : (v : ℕ) → In n.arcs v → ((c : ℕ) → In n.arcs c → n.parent c ≡ v → Filled g c) → Filled g v
      filled_at v i filled =
          let gs : ℕ → ℕ = λ u. pick (n.member u) (g (start u)) in
          ⊎_elim
          (λ (m : n.member v ≡ true).
          let end : start v + user_count n v ≡ suc (start v) = omega (arith, count_own n rooted ends v i m) in
          rw end (omega (arith, own_sum n rooted ends gs v i m, pick_yes (g (start v)) m)))
          (λ (m : n.member v ≡ false).
          let end : start v + user_count n v
          ≡ start v + taken v n.arcs = omega (arith, count_children n rooted v i, pick_no 1 m) in
          rw end
          (omega (
            arith,
            sum_below_children n rooted gs v i,
            pick_no (g (start v)) m,
            in_line v filled n.arcs (omega arith),
          )))
          (both (n.member v))

      -- d bounds how far the arcs' numbers go on after v
      filled_within : (d v : ℕ) → In n.arcs v → n.arcs ≤ v + d → Filled g v
      filled_within zero v i h = filled_at v i (λ c j e. absurd (omega (arith, child_after n rooted v c j e)))
      filled_within (suc d) v i h =
          filled_at v i (λ c j e. filled_within d c j (omega (arith, child_after n rooted v c j e)))

      pub arc_filled : (v : ℕ) → In n.arcs v → Filled g v
      arc_filled v i = filled_within n.arcs v i (omega arith)

      -- the places of all members are those below their number
      pub all_filled : sum n.arcs (λ v. pick (n.member v) (g (start v))) ≡ before g (member_count n)
      all_filled =
          let end : start 0 + taken 0 n.arcs
          ≡ member_count n = omega (arith, begins.source, count_from_source n rooted) in
          omega (
            arith,
            sum_from_source n rooted (λ u. pick (n.member u) (g (start u))),
            in_line 0 (λ c i e. arc_filled c i) n.arcs (omega arith),
            ap (before g) begins.source,
            ap (before g) end,
          )

    -- the users of arc i + 1 are among those of the arcs that leave its parent
    inside : (i : ℕ) → suc i ≤ n.arcs
        → start (suc i) + user_count n (suc i) ≤ start (n.parent (suc i)) + taken (n.parent (suc i)) n.arcs
    inside i h =
        let p = n.parent (suc i) in
        omega (
          arith,
          begins.after i h,
          pick_yes (user_count n (suc i)) (eq-eqb p p refl),
          sum_longer (suc i) n.arcs (λ u. pick (eqb (n.parent u) p) (user_count n u)) h,
        )

    leaving_within : (v : ℕ) → v ≤ n.arcs → start v + taken v n.arcs ≤ member_count n
    leaving_within =
        from_source n rooted (λ v. v ≤ n.arcs → start v + taken v n.arcs ≤ member_count n)
        (λ h. omega (arith, begins.source, count_from_source n rooted))
        (λ v ih h. omega
        (arith, ih (omega (arith, rooted v)), inside v h, count_children n rooted (suc v) (omega arith)))

    pub arc_within : (v : ℕ) → In n.arcs v → start v + user_count n v ≤ member_count n
    arc_within zero i = absurd (omega arith)
    arc_within (suc v) i =
        omega (arith, inside v i.high, leaving_within (n.parent (suc v)) (omega (arith, rooted v)))
