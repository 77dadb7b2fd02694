-- A list of an arc's users has as many numbers as there are users, each a user's.
use Prim.Native.Nat.{ℕ, suc, ◌-◌, ◌≤◌, ◌<◌}
use mathlib.Core.Path.{◌≡◌, refl, sym, ◌∙◌}
use mathlib.Core.Bool.{Bool, true, false, not}
use mathlib.Core.Logic.{⊎_elim}
use mathlib.Core.List.{List}
use native.Mathlib.Omega.{arith}
use lib.ListN.{length, get_or}
use Rattle.basics.specs.Sum.{pick, size}
use Rattle.game.specs.Network.{Network, member_count}
use Rattle.game.specs.Core.{users}
use Rattle.game.specs.ByArc.{user_count}
use Rattle.basics.proofs.Bools.{both, pick_yes, pick_le}
use Rattle.basics.proofs.Sums.{sum₀_zero}
use Rattle.basics.proofs.Sizes.{size_le}
use Rattle.basics.proofs.Totals.{total_ones, total_has}
use Rattle.users.specs.Users.{Lists}

module _ (n : Network) (k : ℕ) (us : List ℕ) (lists : Lists n k us) where
  pub as_many_users : length us ≡ user_count n k
  unfolding size
  as_many_users = sym (total_ones us) ∙ lists.sums (λ u. 1)

  pub list_length : length us ≤ member_count n
  list_length = omega (arith, as_many_users, size_le (member_count n) (users n k))

  -- u + 1 less the number of members is 0 for each member, so for each number in the list
  pub number_below : (i : ℕ) → i < length us → get_or us i 0 < member_count n
  number_below i h =
      omega (
        arith,
        total_has (λ u. suc u - member_count n) us i h,
        lists.sums (λ u. suc u - member_count n),
        sum₀_zero (member_count n) {f = λ j. pick (users n k j) (suc j - member_count n)}
            (λ j l. omega (arith, pick_le (users n k j) (suc j - member_count n))),
      )

  -- no number of another member is in the list
  pub number_user : (i : ℕ) → i < length us → users n k (get_or us i 0) ≡ true
  number_user i h =
      ⊎_elim
      (λ (e : users n k (get_or us i 0) ≡ true). e)
      (λ (e : users n k (get_or us i 0) ≡ false).
      absurd
      (omega (
        arith,
        total_has (λ u. pick (not (users n k u)) 1) us i h,
        lists.sums (λ u. pick (not (users n k u)) 1),
        pick_yes {b = not (users n k (get_or us i 0))} 1 (rw e),
        sum₀_zero (member_count n) {f = λ j. pick (users n k j) (pick (not (users n k j)) 1)}
            (λ j l. never (users n k j)),
      )))
      (both (users n k (get_or us i 0)))
    where
      never : (b : Bool) → pick b (pick (not b) 1) ≡ 0
      never true = refl
      never false = refl
