-- The keys below a bound, as many as there are units left over, each raised by one tally: the tallies handed back.
use Prim.Native.Nat.{ℕ, suc, ◌+◌, ◌*◌, ◌≤◌, ◌<◌}
use mathlib.Core.Path.{◌≡◌, refl, sym, ap, ◌∙◌}
use mathlib.Core.Bool.{Bool, true, false}
use mathlib.Core.List.{List}
use native.Mathlib.Nat.{mul-le-mul}
use native.Mathlib.Omega.{arith}
use borrow.Author.Tests.{le-ltb}
use lib.ListN.{length, get_or}
use lib.Dec.{ltb}
use Rattle.limits.specs.Limits.{most_arcs}
use Rattle.basics.specs.Sum.{pick, size}
use Rattle.basics.proofs.Bools.{pick_no, pick_and}
use Rattle.basics.proofs.Sums.{sum₀_cong}
use Rattle.game.specs.Network.{Network, member_count}
use Rattle.game.specs.Core.{users}
use Rattle.game.specs.ByArc.{user_count, leftover, served, tallied}
use Rattle.game.proofs.Keys.{key_of, below_none, below_step, keys_apart}
use Rattle.game.proofs.Gifts.{users_below, served_below}
use Rattle.game.proofs.ByArc.{tallied_at}
use Rattle.users.specs.Users.{Lists}
use Rattle.basics.proofs.Totals.{total_places}
use Rattle.users.proofs.Listed.{as_many_users, list_length, number_below, number_user}
use Rattle.turns.specs.Keys.{KeysOf, lower, Keys, HandedBack}
use Rattle.turns.specs.Bound.{Raised}

-- a tally one higher, or the same
next_key : (t base u : ℕ) (b : Bool) → (t + pick b 1) * base + u ≡ t * base + u + pick b base
next_key t base u true = omega arith
next_key t base u false = omega arith

module _ (base : ℕ) (n : Network) (k : ℕ) (tallies us keys : List ℕ) (lists : Lists n k us)
    (room : member_count n ≤ base) (of : KeysOf base tallies us keys) where
  -- the keys below a bound are those of the users below it
  lower_users : (bound : ℕ) → lower keys bound ≡ users_below n k tallies base room bound
  unfolding size
  lower_users bound =
      ap (λ (m : ℕ). size m (λ i. ltb (get_or keys i 0) bound)) of.sized
      ∙ sum₀_cong (length us) (λ i h. ap (λ (key : ℕ). pick (ltb key bound) 1) (of.keyed i h))
      ∙ sym (total_places (λ u. pick (ltb (key_of base tallies u) bound) 1) us)
      ∙ lists.sums (λ u. pick (ltb (key_of base tallies u) bound) 1)
      ∙ sum₀_cong (member_count n) (λ j h. sym (pick_and (users n k j) (ltb (key_of base tallies j) bound) 1))

  pub users_keys : base ≤ most_arcs → ((j : ℕ) → j < member_count n → get_or tallies j 0 < most_arcs) → Keys keys
  users_keys few low =
      record {
        few = omega (arith, of.sized, list_length n k us lists);
        limited =
            λ i h.
            let at : i < length us = omega (arith, of.sized) in
            omega (
              arith,
              of.keyed i at,
              number_below n k us lists i at,
              mul-le-mul (low (get_or us i 0) (number_below n k us lists i at)) few,
            );
        single =
            λ bound.
            omega (
              arith,
              lower_users bound,
              lower_users (suc bound),
              below_step (member_count n) (users n k) (key_of base tallies)
                  (λ i j l h. keys_apart base tallies i j l (omega arith)) bound,
            );
      }

  module _ (more bound : ℕ) (left : 0 < user_count n k → more ≡ leftover n k) (exact : lower keys bound ≡ more) where
    raised_tallies : {after : List ℕ} → Raised base bound keys after → KeysOf base (tallied n k tallies) us after
    raised_tallies {after} r =
        record {
          sized = r.kept ∙ of.sized;
          keyed =
              λ i h.
              let u = get_or us i 0 in
              let inside = number_below n k us lists i h in
              let some : 0 < user_count n k = omega (arith, as_many_users n k us lists) in
              let turn : served n k tallies u ≡ ltb (get_or keys i 0) bound =
              served_below n k tallies base room bound
              (sym (lower_users bound) ∙ exact ∙ left some) u inside
              ∙ rw (number_user n k us lists i h) (ap (λ (key : ℕ). ltb key bound) (sym (of.keyed i h))) in
              omega (
                arith,
                r.raised i (omega (arith, of.sized)),
                of.keyed i h,
                ap (λ (t : ℕ). t * base)
                    (tallied_at n k tallies u inside ∙ ap (λ (b : Bool). get_or tallies u 0 + pick b 1) turn),
                next_key (get_or tallies u 0) base u (ltb (get_or keys i 0) bound),
              );
        }

pub handed_back : {base more bound : ℕ} {before after : List ℕ} → lower before bound ≡ more
    → Raised base bound before after → HandedBack base more before after
handed_back {base} {more} {bound} {before} {after} exact raised =
    record {
      is =
          λ n k tallies us lists room left of.
          raised_tallies base n k tallies us before lists room of more bound left exact raised;
    }

-- no unit, and no key changed
pub none_left : {base more : ℕ} {keys : List ℕ} → more ≡ 0 → HandedBack base more keys keys
none_left {base} {more} {keys} none =
    handed_back {bound = 0} (below_none (length keys) (λ i. true) (λ i. get_or keys i 0) ∙ sym none)
    (record {
      kept = refl;
      raised = λ i h. omega (arith, pick_no base (le-ltb (get_or keys i 0) 0 (omega arith)));
    })
