-- A division that gives each arc's cost evenly to its users meets every need and adds up.
use Prim.Native.Nat.{ℕ, ◌≤◌, ◌<◌}
use mathlib.Core.Path.{◌≡◌, sym, ap, ◌∙◌}
use mathlib.Core.Bool.{Bool, true, false}
use mathlib.Core.Logic.{⊎_elim}
use mathlib.Core.List.{List, map}
use native.Mathlib.Omega.{arith}
use lib.ListN.{get_or}
use lib.IntN.{pos}
use Rattle.basics.specs.Sum.{pick, sum, sum₀}
use Rattle.game.specs.Network.{Network, at_or_below, member_count, sum_below, whole_cost, members}
use Rattle.game.specs.Core.{users, CoreByNeed}
use Rattle.game.specs.Shapley.{Even}
use Rattle.basics.proofs.Bools.{both, pick_yes, pick_no, pick_zero}
use Rattle.basics.proofs.Sums.{In, sum_cong, sum_mono, sum_pick, sum₀_cong, sum₀_swap}
use Rattle.game.proofs.Below.{Rooted, below_trans}
use Rattle.game.proofs.NaturalShares.{has, natural_core}

module _ (n : Network) (l : List ℕ) where
  -- the shares are the sums of the arcs' gifts
  module _ (gift : ℕ → ℕ → ℕ) (even : (k : ℕ) → In n.arcs k → Even n k (gift k))
      (sums : (j : ℕ) → j < member_count n → get_or l j 0 ≡ sum n.arcs (λ k. gift k j)) where
    -- what a group pays, arc by arc
    by_arcs : (g : ℕ → Bool) → has n l g ≡ sum n.arcs (λ k. sum₀ (member_count n) (λ j. pick (g j) (gift k j)))
    by_arcs g =
        sum₀_cong (member_count n) (λ j h. ap (pick (g j)) (sums j h) ∙ sym (sum_pick (g j) n.arcs (λ k. gift k j)))
        ∙ sum₀_swap (member_count n) n.arcs (λ j k. pick (g j) (gift k j))

    -- the users of an arc at or below f use f too
    to_users : Rooted n → (f k : ℕ) → In n.arcs k
        → pick (at_or_below n f k) (n.cost k) ≤ sum₀ (member_count n) (λ j. pick (users n f j) (gift k j))
    to_users rooted f k i =
        ⊎_elim
        (λ (b : at_or_below n f k ≡ true).
        omega (
          arith,
          pick_yes (n.cost k) b,
          (even k i).all,
          sum₀_cong (member_count n) {f = λ j. pick (users n f j) (gift k j)} {g = gift k} (λ j h. whole b j),
        ))
        (λ (b : at_or_below n f k ≡ false). omega (arith, pick_no (n.cost k) b))
        (both (at_or_below n f k))
      where
        whole : at_or_below n f k ≡ true → (j : ℕ) → pick (users n f j) (gift k j) ≡ gift k j
        whole b j =
            ⊎_elim
            (λ (u : users n k j ≡ true). pick_yes (gift k j) (below_trans n rooted f k (get_or (members n) j 0) b u))
            (λ (u : users n k j ≡ false). ap (pick (users n f j)) ((even k i).others j u) ∙ pick_zero (users n f j)
            ∙ sym ((even k i).others j u))
            (both (users n k j))

    pub even_core : Rooted n → CoreByNeed n (map pos l)
    unfolding sum_below whole_cost
    even_core rooted =
        natural_core n l (by_arcs (λ j. true) ∙ sum_cong n.arcs (λ k i. (even k i).all))
        (λ f i.
        omega (
          arith,
          by_arcs (users n f),
          sum_mono n.arcs {f = λ k. pick (at_or_below n f k) (n.cost k)}
              {g = λ k. sum₀ (member_count n) (λ j. pick (users n f j) (gift k j))} (to_users rooted f),
        ))
