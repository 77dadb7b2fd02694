-- What an arc's users have together at a key: at most their caps, at least what its members have, and at the greatest
-- key at least its bound.
use Prim.Native.Nat.{ℕ, ◌*◌, ◌≤◌, max}
use mathlib.Core.Path.{sym, ap}
use mathlib.Core.List.{List}
use native.Mathlib.Omega.{arith}
use lib.ListN.{get_or}
use Rattle.basics.specs.Sum.{pick}
use Rattle.game.specs.Network.{Network, number, sum_below, at_or_below}
use Rattle.game.specs.LevelKeys.{held}
use Rattle.basics.proofs.Bools.{pick_both_le}
use Rattle.basics.proofs.Sums.{In, sum_cong}
use Rattle.game.proofs.Below.{Rooted, sum_below_children}
use Rattle.game.proofs.Inward.{from_leaves, children_mono}
use Rattle.game.proofs.LevelList.{view}
use Rattle.game.proofs.LevelKeys.{vertex_at, held_is, at_key_le_cap, at_key_cap}

module _ (n : Network) (rooted : Rooted n) where
  module _ (caps : List ℕ) (bound : ℕ → ℕ) (key : ℕ) where
    -- at least what the members at or below have
    held_covers : (k : ℕ) → In n.arcs k → sum_below n (vertex_at n caps key) k ≤ held n caps bound key k
    held_covers =
        from_leaves n rooted (λ k. sum_below n (vertex_at n caps key) k ≤ held n caps bound key k)
        (λ k i ih.
        omega (
          arith,
          sum_below_children n rooted (vertex_at n caps key) k i,
          held_is n caps bound rooted key k i,
          children_mono n (sum_below n (vertex_at n caps key)) (λ u. max (bound u) (held n caps bound key u)) k
              (λ u j e. omega (arith, ih u j e)),
        ))

    module _ (coverable : (k : ℕ) → In n.arcs k → bound k ≤ sum_below n (view n caps) k) where
      -- at most their caps
      pub held_le_caps : (k : ℕ) → In n.arcs k → held n caps bound key k ≤ sum_below n (view n caps) k
      held_le_caps =
          from_leaves n rooted (λ k. held n caps bound key k ≤ sum_below n (view n caps) k)
          (λ k i ih.
          omega (
            arith,
            sum_below_children n rooted (view n caps) k i,
            held_is n caps bound rooted key k i,
            pick_both_le (n.member k) (at_key_le_cap caps key (number n k)),
            children_mono n (λ u. max (bound u) (held n caps bound key u)) (sum_below n (view n caps)) k
                (λ u j e. omega (arith, ih u j e, coverable u j)),
          ))

module _ (n : Network) (caps : List ℕ) (most : ℕ) (limited : (j : ℕ) → get_or caps j 0 ≤ most) where
  -- at the greatest key a member has its cap
  pub held_enough : Rooted n → (bound : ℕ → ℕ) → ((k : ℕ) → In n.arcs k → bound k ≤ sum_below n (view n caps) k)
      → (k : ℕ) → In n.arcs k → bound k ≤ held n caps bound (most * 1024) k
  unfolding sum_below
  held_enough rooted bound coverable k i =
      omega (
        arith,
        coverable k i,
        held_covers n rooted caps bound (most * 1024) k i,
        sum_cong n.arcs {f = λ v. pick (at_or_below n k v) (view n caps v)}
            {g = λ v. pick (at_or_below n k v) (vertex_at n caps (most * 1024) v)}
            (λ v j.
            ap (λ (x : ℕ). pick (at_or_below n k v) (pick (n.member v) x))
            (sym (at_key_cap caps (most * 1024) (number n v) (omega (arith, limited (number n v)))))),
      )
