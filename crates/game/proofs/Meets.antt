-- Two groups of member numbers that share a member; a group uses an arc where it shares one with the arc's users.
use Prim.Native.Nat.{ℕ, zero, suc, ◌<◌}
use mathlib.Core.Path.{◌≡◌, refl, sym, ap, ◌∙◌}
use mathlib.Core.Bool.{Bool, true, false, ◌&&◌, ◌||◌, or-false, or_assoc, false≢true}
use mathlib.Core.Logic.{◌⊎◌, inl, inr, ⊎_elim}
use native.Mathlib.Decide.{dec_lt}
use native.Mathlib.Omega.{arith}
use borrow.Author.Tests.{eqb-true, eq-eqb}
use lib.Dec.{eqb}
use Rattle.game.specs.Network.{Network, at_or_below, used, number, member_count}
use Rattle.game.specs.Group.{group_by_number}
use Rattle.game.specs.Core.{users}
use Rattle.basics.proofs.Bools.{and_both, and_first, and_second, or_first, or_second, or_cases, same_test}
use Rattle.game.proofs.Groups.{UsedBy, used_of, used_by}
use Rattle.game.proofs.Numbering.{vertex_of}
use Rattle.game.proofs.Overpayment.{number_lt}
use Rattle.game.proofs.Bounds.{users_at}

-- some number below n is in both groups
unfoldable pub meets : ℕ → (ℕ → Bool) → (ℕ → Bool) → Bool
meets zero g a = false
meets (suc n) g a = meets n g a || (g n && a n)

-- from the first number on
pub meets_first : (n : ℕ) (g a : ℕ → Bool)
    → meets (suc n) g a ≡ ((g 0 && a 0) || meets n (λ j. g (suc j)) (λ j. a (suc j)))
unfolding meets
meets_first zero g a = sym (or-false (g 0 && a 0))
meets_first (suc n) g a =
    ap (λ (b : Bool). b || (g (suc n) && a (suc n))) (meets_first n g a)
    ∙ or_assoc (g 0 && a 0) (meets n (λ j. g (suc j)) (λ j. a (suc j))) (g (suc n) && a (suc n))

-- a number that they share
pub record Shared (n : ℕ) (g a : ℕ → Bool) : Type 0 where
  pub which : ℕ
  pub below : which < n
  pub one : g which ≡ true
  pub other : a which ≡ true

pub shared_by : (n : ℕ) (g a : ℕ → Bool) → meets n g a ≡ true → Shared n g a
unfolding meets
shared_by zero g a e = absurd (false≢true e)
shared_by (suc n) g a e =
    ⊎_elim
    (λ (h : meets n g a ≡ true).
    let s = shared_by n g a h in
    record { which = s.which; below = omega arith; one = s.one; other = s.other })
    (λ (h : (g n && a n) ≡ true).
    record { which = n; below = omega arith; one = and_first (g n) (a n) h; other = and_second (g n) (a n) h })
    (or_cases (meets n g a) (g n && a n) e)

pub meets_of : {n : ℕ} {g a : ℕ → Bool} → Shared n g a → meets n g a ≡ true
unfolding meets
meets_of {n} {g} {a} s = up_to n s.below
  where
    up_to : (m : ℕ) → s.which < m → meets m g a ≡ true
    up_to zero h = absurd (omega arith)
    up_to (suc m) h =
        elim (dec_lt s.which m) [
          | yes l ↦ or_first (g m && a m) (up_to m l)
          | no l ↦
              let last : s.which ≡ m = omega arith in
              or_second (meets m g a) (rw last at (and_both s.one s.other))
        ]

-- one number more
pub meets_more : (n : ℕ) (g a : ℕ → Bool) (i : ℕ) → i < n → meets n (λ j. g j || eqb j i) a ≡ (meets n g a || a i)
meets_more n g a i h =
    same_test (meets n (λ j. g j || eqb j i) a) (meets n g a || a i)
    (λ e. parts (shared_by n (λ j. g j || eqb j i) a e))
    (λ e. meets_of (whole (or_cases (meets n g a) (a i) e)))
  where
    parts : Shared n (λ j. g j || eqb j i) a → (meets n g a || a i) ≡ true
    parts s =
        ⊎_elim
        (λ (e : g s.which ≡ true). or_first (a i)
        (meets_of (record { which = s.which; below = s.below; one = e; other = s.other })))
        (λ (e : eqb s.which i ≡ true). or_second (meets n g a) (sym (ap a (eqb-true s.which i e)) ∙ s.other))
        (or_cases (g s.which) (eqb s.which i) s.one)

    whole : (meets n g a ≡ true) ⊎ (a i ≡ true) → Shared n (λ j. g j || eqb j i) a
    whole (inl m) =
        let s = shared_by n g a m in
        record { which = s.which; below = s.below; one = or_first (eqb s.which i) s.one; other = s.other }
    whole (inr u) = record { which = i; below = h; one = or_second (g i) (eq-eqb i i refl); other = u }

pub used_by_number : (n : Network) (g : ℕ → Bool) (k : ℕ)
    → used n (group_by_number n g) k ≡ meets (member_count n) g (users n k)
used_by_number n g k =
    same_test (used n (group_by_number n g) k) (meets (member_count n) g (users n k))
    (λ e. meets_of (by_number (used_by n (group_by_number n g) k e)))
    (λ e. used_of n (by_vertex (shared_by (member_count n) g (users n k) e)))
  where
    by_number : UsedBy n (group_by_number n g) k → Shared (member_count n) g (users n k)
    by_number b =
        let m = and_first (n.member b.by) (at_or_below n k b.by) b.uses in
        record {
          which = number n b.by;
          below = number_lt n b.by b.within m;
          one = b.chosen;
          other = users_at n k b.by b.within m ∙ and_second (n.member b.by) (at_or_below n k b.by) b.uses;
        }

    by_vertex : Shared (member_count n) g (users n k) → UsedBy n (group_by_number n g) k
    by_vertex s =
        let v = vertex_of n.member n.arcs s.which s.below in
        record {
          by = v.vertex;
          within = v.within;
          chosen = ap g v.numbered ∙ s.one;
          uses =
              and_both v.is_member
              (sym (users_at n k v.vertex v.within v.is_member) ∙ ap (users n k) v.numbered ∙ s.other);
        }
