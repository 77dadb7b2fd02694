-- The level rule at the adjusted needs, where every arc is served.
use Prim.Native.Nat.{ℕ}
use mathlib.Core.Path.{◌≡◌, ap, ◌∙◌}
use mathlib.Core.List.{List, []}
use native.Mathlib.Omega.{arith}
use lib.ListN.{length}
use lib.Dec.{eqb}
use Rattle.basics.specs.Sum.{pick, list}
use Rattle.basics.proofs.Lists.{list_length}
use Rattle.basics.proofs.Sums.{In, sum_cong}
use Rattle.game.specs.Network.{Network, member_count, sum_below}
use Rattle.game.specs.Tree.{of_arc}
use Rattle.game.specs.Inward.{of_children, amount_of}
use Rattle.game.specs.Floors.{adjusted}
use Rattle.game.proofs.ArcEntries.{of_list}
use Rattle.game.proofs.LevelCosts.{level_same}
use Rattle.game.proofs.Adjusted.{adjusted_grows}
use Rattle.tree.specs.Passes.{Sound, Listed, network_at}
use Rattle.tree.proofs.Vertices.{listed_end}
use Rattle.answers.specs.Level.{split, split_from, level_shares}
use Rattle.answers.proofs.LevelStops.{all_served}
use Rattle.key_search.specs.Shares.{Bounds, level_at}

module _ (ps cs vs caps floors : List ℕ) (sound : Sound ps) (listed : Listed ps vs) {bounds : List ℕ}
    (written : bounds ≡ list (length ps) (adjusted (network_at ps cs vs) floors)) where
  abbrev n : Network
  n = network_at ps cs vs

  bound_at : (k : ℕ) → In (length ps) k → of_arc bounds k ≡ adjusted n floors k
  bound_at k i = ap (λ (l : List ℕ). of_arc l k) written ∙ of_list (length ps) (adjusted n floors) k i

  children_at : (k : ℕ) → of_children n (of_arc bounds) k ≡ of_children n (adjusted n floors) k
  children_at k = sum_cong (length ps) (λ u i. ap (pick (eqb (of_arc ps u) k)) (bound_at u i))

  pub adjusted_bounds : split_from n caps floors (length ps) ≡ split (member_count n) → Bounds ps vs caps bounds
  unfolding sum_below
  adjusted_bounds is =
      record {
        sized = ap length written ∙ list_length (adjusted n floors) (length ps);
        grows = λ k i.
            omega (
              arith,
              children_at k,
              bound_at k i,
              adjusted_grows n sound.rising (listed_end ps vs listed cs) floors k i,
            );
        covered = λ k i. omega (arith, bound_at k i, (all_served n caps floors (length ps) is k i).covered);
      }

  pub level_at_adjusted : level_at ps vs caps bounds ≡ level_shares n caps floors
  level_at_adjusted =
      level_same n (of_arc []) caps (amount_of n (of_arc bounds)) (amount_of n (adjusted n floors))
      (λ k i. omega (arith, bound_at k i, children_at k))
