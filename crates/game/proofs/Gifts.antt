-- What an arc gives divides its cost evenly, and the units left over go to the users that are ahead of the others.
use Prim.Native.Nat.{ℕ, suc, ◌+◌, ◌*◌, ◌≤◌, ◌<◌, min}
use mathlib.Core.Path.{◌≡◌, sym, ap, ◌∙◌}
use mathlib.Core.Bool.{Bool, true, false, ◌&&◌}
use mathlib.Core.Logic.{◌⊎◌, inl, inr, ⊎_elim}
use mathlib.Core.List.{List}
use native.Mathlib.Decide.{dec_lt}
use native.Mathlib.Nat.{div-add-mod, mod-lt, zero-div, zero-mod}
use native.Mathlib.Omega.{arith}
use borrow.Author.Tests.{lt-ltb, le-ltb, ltb-true}
use lib.Dec.{ltb}
use Rattle.basics.specs.Sum.{pick, size}
use Rattle.game.specs.Network.{Network, member_count}
use Rattle.game.specs.Core.{users}
use Rattle.game.specs.ByArc.{user_count, equal_part, leftover, ahead, rank, served, gives, tallies_at, gift}
use Rattle.game.specs.Shapley.{Even}
use Rattle.basics.proofs.Bools.{both, and_both, and_second, pick_le}
use Rattle.basics.proofs.Sums.{sum₀_add}
use Rattle.basics.proofs.Sizes.{size_times, size_same}
use Rattle.game.proofs.Keys.{key_of, below, below_mono, below_own, first_size, keys_apart, ahead_key}

module _ (n : Network) (k : ℕ) (tallies : List ℕ) where
  module _ (b : ℕ) (room : member_count n ≤ b) where
    -- how many users have a key below t
    abbrev pub users_below : ℕ → ℕ
    users_below = below (member_count n) (users n k) (key_of b tallies)

    rank_key : (j : ℕ) → j < member_count n → rank n k tallies j ≡ users_below (key_of b tallies j)
    rank_key j h =
        size_same (member_count n) (λ i. users n k i && ahead tallies i j)
        (λ i. users n k i && ltb (key_of b tallies i) (key_of b tallies j))
        (λ i l. ap (λ (x : Bool). users n k i && x) (ahead_key b tallies i j (omega arith) (omega arith)))

    -- a bound that as many users' keys are below as there are units left over
    module _ (bound : ℕ) (exact : users_below bound ≡ leftover n k) where
      pub served_below : (j : ℕ) → j < member_count n
          → served n k tallies j ≡ (users n k j && ltb (key_of b tallies j) bound)
      served_below j h =
          ⊎_elim
          (λ (e : users n k j ≡ true). rw e (by_key e))
          (λ (e : users n k j ≡ false). rw e)
          (both (users n k j))
        where
          key : ℕ
          key = key_of b tallies j

          by_key : users n k j ≡ true → ltb (rank n k tallies j) (leftover n k) ≡ ltb key bound
          by_key e =
              elim (dec_lt key bound) [
                | yes l ↦
                    lt-ltb (rank n k tallies j) (leftover n k)
                    (omega (
                      arith,
                      rank_key j h,
                      exact,
                      below_own (member_count n) (users n k) (key_of b tallies) j h e,
                      below_mono (member_count n) (users n k) (key_of b tallies) (suc key) bound (omega arith),
                    ))
                    ∙ sym (lt-ltb key bound l)
                | no l ↦
                    le-ltb (rank n k tallies j) (leftover n k)
                    (omega (
                      arith,
                      rank_key j h,
                      exact,
                      below_mono (member_count n) (users n k) (key_of b tallies) bound key (omega arith),
                    ))
                    ∙ sym (le-ltb key bound (omega arith))
              ]

  pub served_count : size (member_count n) (served n k tallies) ≡ min (user_count n k) (leftover n k)
  served_count =
      let key = key_of (member_count n) tallies in
      size_same (member_count n) (served n k tallies)
      (λ j. users n k j && ltb (below (member_count n) (users n k) key (key j)) (leftover n k))
      (λ j h. ap (λ (x : ℕ). users n k j && ltb x (leftover n k)) (rank_key (member_count n) (omega arith) j h))
      ∙ first_size (member_count n) (users n k) key (keys_apart (member_count n) tallies) (leftover n k)

  -- of two users the one that is ahead is served first
  pub served_first : (i j : ℕ) → i < member_count n → j < member_count n → users n k i ≡ true
      → ahead tallies i j ≡ true → served n k tallies j ≡ true → served n k tallies i ≡ true
  served_first i j hi hj e first s =
      let b = member_count n in
      let key = key_of b tallies in
      let less = ltb-true (key i) (key j) (sym (ahead_key b tallies i j hi hj) ∙ first) in
      and_both e
      (lt-ltb (rank n k tallies i) (leftover n k)
      (omega (
        arith,
        rank_key b (omega arith) i hi,
        rank_key b (omega arith) j hj,
        below_mono b (users n k) key (key i) (key j) (omega (arith, less)),
        ltb-true (rank n k tallies j) (leftover n k) (and_second (users n k j) _ s),
      )))

  -- an arc with users, or without a cost
  pub gives_even : (0 < user_count n k) ⊎ (n.cost k ≡ 0) → Even n k (gives n k tallies)
  gives_even some =
      record {
        others = λ j e. rw e;
        least = λ j e. rw e (omega arith);
        most = λ j e. rw e (omega (arith, pick_le (ltb (rank n k tallies j) (leftover n k)) 1));
        all =
            sum₀_add (member_count n) (λ j. pick (users n k j) (equal_part n k)) (λ j. pick (served n k tallies j) 1)
            ∙ omega (
              arith,
              size_times (member_count n) (equal_part n k) (users n k),
              size_times (member_count n) 1 (served n k tallies),
              served_count,
              whole some,
            );
      }
    where
      -- equal parts of the cost, and what they leave over
      whole : (0 < user_count n k) ⊎ (n.cost k ≡ 0)
          → equal_part n k * user_count n k + min (user_count n k) (leftover n k) ≡ n.cost k
      whole (inl h) = omega (arith, div-add-mod (n.cost k) (user_count n k), mod-lt (n.cost k) h)
      whole (inr free) = rw (free, zero-div, zero-mod) (omega arith)

-- in the by-arc split
pub gift_even : (n : Network) (k : ℕ) → (0 < user_count n k) ⊎ (n.cost k ≡ 0) → Even n k (gift n k)
gift_even n k some = gives_even n k (tallies_at n k) some
