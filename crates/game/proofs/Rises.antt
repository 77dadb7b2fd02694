-- Lists in the core of two networks that differ in costs alone, where no share falls: what the rises add up to.
use Prim.Native.Nat.{ℕ, ◌+◌, ◌-◌, ◌≤◌}
use mathlib.Core.Path.{◌≡◌, sym, ap, ◌∙◌}
use mathlib.Core.Bool.{Bool, true}
use mathlib.Core.List.{List, map}
use native.Mathlib.Omega.{arith}
use lib.ListN.{get_or}
use lib.IntN.{pos}
use Rattle.basics.specs.Sum.{pick, sum₀}
use Rattle.game.specs.Network.{Network, need, whole_cost, number, member_count}
use Rattle.game.specs.Core.{users, Core}
use Rattle.basics.proofs.Bools.{pick_add}
use Rattle.basics.proofs.Sums.{In, sum₀_cong, sum₀_add}
use Rattle.game.proofs.Below.{Rooted}
use Rattle.game.proofs.Excess.{MembersEnd}
use Rattle.game.proofs.Bump.{below_cong}
use Rattle.game.proofs.Overpayment.{over_at}
use Rattle.game.proofs.Core.{users_by_vertex}
use Rattle.game.proofs.NaturalShares.{has, over_pos, core_all}
use Rattle.game.proofs.CoreLimits.{source_exact}
use Rattle.game.proofs.LevelCosts.{recosted}

-- the users of an arc from the source have its need
source_has : (n : Network) → Rooted n → MembersEnd n → (l : List ℕ) → Core n (map pos l)
    → (k : ℕ) → In n.arcs k → n.parent k ≡ 0 → has n l (users n k) ≡ need n k
source_has n rooted ends l core k i e =
    users_by_vertex n (λ j. get_or l j 0) k
    ∙ below_cong n (λ v. pick (n.member v) (get_or l (number n v) 0)) (over_at n (map pos l)) k
    (λ v j. sym (over_pos n l v))
    ∙ source_exact n rooted ends (map pos l) core k i e

module _ (n : Network) (l l' : List ℕ) (le : (j : ℕ) → get_or l j 0 ≤ get_or l' j 0) where
  abbrev rise : ℕ → ℕ
  rise j = get_or l' j 0 - get_or l j 0

  group_rises : (g : ℕ → Bool) → has n l g + sum₀ (member_count n) (λ j. pick (g j) (rise j)) ≡ has n l' g
  group_rises g =
      sym (sum₀_add (member_count n) (λ j. pick (g j) (get_or l j 0)) (λ j. pick (g j) (rise j)))
      ∙ sum₀_cong (member_count n)
      (λ j h. sym (pick_add (g j) (get_or l j 0) (rise j)) ∙ ap (pick (g j)) (omega (arith, le j)))

  module _ (cost : ℕ → ℕ) (core : Core n (map pos l)) (core' : Core (recosted n cost) (map pos l')) where
    -- everyone's: by the whole cost
    pub all_rises : whole_cost n + sum₀ (member_count n) (λ j. get_or l' j 0 - get_or l j 0) ≡ whole_cost (recosted n cost)
    all_rises =
        omega (
          arith,
          group_rises (λ j. true),
          core_all n l core,
          core_all (recosted n cost) l' core',
        )

    -- those of the users of an arc from the source: by its need
    pub branch_rises : Rooted n → MembersEnd n → (b : ℕ) → In n.arcs b → n.parent b ≡ 0
        → need n b + sum₀ (member_count n) (λ j. pick (users n b j) (get_or l' j 0 - get_or l j 0))
        ≡ need (recosted n cost) b
    branch_rises rooted ends b i e =
        omega (
          arith,
          group_rises (users n b),
          source_has n rooted ends l core b i e,
          source_has (recosted n cost) rooted ends l' core' b i e,
        )
