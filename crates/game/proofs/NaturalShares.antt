-- Lists without negative shares: what a group pays, and when they are in the core.
use Prim.Native.Nat.{ℕ, ◌≤◌}
use mathlib.Core.Path.{◌≡◌, refl, sym, ap, ◌∙◌}
use mathlib.Core.Bool.{Bool, true, false}
use mathlib.Core.List.{List, map}
use native.Mathlib.Omega.{arith}
use lib.ListN.{get_or, get_or-map}
use lib.IntN.{ℤ, pos}
use Rattle.basics.specs.Sum.{pick, sum₀}
use Rattle.game.specs.Network.{Network, member_count, number, group_cost, need, whole_cost}
use Rattle.basics.specs.Integer.{plus, pick_ℤ}
use Rattle.game.specs.Group.{group_by_number}
use Rattle.game.specs.Proposal.{share, pays}
use Rattle.game.specs.Core.{users, IsArc, Core, CoreByNeed}
use Rattle.basics.proofs.Integers.{less_parts, less_le, le_less, less_is, sum_pos_ℤ}
use Rattle.game.proofs.Overpayment.{over_at}

pick_pos_ℤ : (b : Bool) (x : ℕ) → pick_ℤ b (pos x) ≡ pos (pick b x)
pick_pos_ℤ true x = refl
pick_pos_ℤ false x = refl

module _ (n : Network) (l : List ℕ) where
  -- what a group has of the list
  abbrev pub has : (ℕ → Bool) → ℕ
  has g = sum₀ (member_count n) (λ j. pick (g j) (get_or l j 0))

  pub pays_pos : (g : ℕ → Bool) → pays n (map pos l) g ≡ pos (has g)
  unfolding pays
  pays_pos g =
      sum_pos_ℤ (member_count n) (λ j. pick_ℤ (g j) (share (map pos l) j)) (λ j. pick (g j) (get_or l j 0))
      (λ j h. ap (pick_ℤ (g j)) (get_or-map pos l j 0) ∙ pick_pos_ℤ (g j) (get_or l j 0))

  -- at a member's vertex its share, 0 elsewhere
  pub over_pos : (v : ℕ) → over_at n (map pos l) v ≡ pick (n.member v) (get_or l (number n v) 0)
  over_pos v = ap (λ (x : ℤ). pick (n.member v) (plus x)) (get_or-map pos l (number n v) 0)

  pub natural_core : has (λ j. true) ≡ whole_cost n → ((k : ℕ) → IsArc n k → need n k ≤ has (users n k))
      → CoreByNeed n (map pos l)
  natural_core all enough =
      record {
        adds_up = pays_pos (λ j. true) ∙ ap pos all;
        users_enough = λ k i.
            rw (pays_pos (users n k))
            (less_le (pos (need n k)) (pos (has (users n k))) (less_parts (pos (need n k)))
            (less_parts (pos (has (users n k)))) (omega (arith, enough k i)));
      }

  -- in the core everyone together has the whole cost, and no group more than its own
  pub core_all : Core n (map pos l) → has (λ j. true) ≡ whole_cost n
  core_all core =
      omega (
        arith,
        less_is (less_parts (pos (has (λ j. true)))) (less_parts (pos (whole_cost n)))
            (sym (pays_pos (λ j. true)) ∙ core.adds_up),
      )

  pub core_group : Core n (map pos l) → (g : ℕ → Bool) → has g ≤ group_cost n (group_by_number n g)
  core_group core g =
      let cost = group_cost n (group_by_number n g) in
      omega (
        arith,
        le_less (pos (has g)) (pos cost) (less_parts (pos (has g))) (less_parts (pos cost))
            (rw (pays_pos g) at (core.no_group_more g)),
      )

  pub groups_core : has (λ j. true) ≡ whole_cost n → ((g : ℕ → Bool) → has g ≤ group_cost n (group_by_number n g))
      → Core n (map pos l)
  groups_core all most =
      record {
        adds_up = pays_pos (λ j. true) ∙ ap pos all;
        no_group_more = λ g.
            let cost = group_cost n (group_by_number n g) in
            rw (pays_pos g)
            (less_le (pos (has g)) (pos cost) (less_parts (pos (has g))) (less_parts (pos cost))
            (omega (arith, most g)));
      }
