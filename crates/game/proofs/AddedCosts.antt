-- Costs that are added up of several classes: a group's cost is added up of its costs in the classes, and lists of the
-- classes' cores, added up, are in the core.
use Prim.Native.Nat.{ℕ, ◌<◌}
use mathlib.Core.Path.{◌≡◌, sym, ap, ◌∙◌}
use mathlib.Core.Bool.{Bool, true}
use mathlib.Core.List.{List, map}
use native.Mathlib.Omega.{arith}
use lib.ListN.{get_or}
use lib.IntN.{pos}
use Rattle.basics.specs.Sum.{pick, sum₀, entries}
use Rattle.basics.proofs.Sums.{In, sum_cong, sum₀_cong, sum₀_mono, sum₀_swap, sum₀_swap₀, sum₀_pick}
use Rattle.basics.proofs.Lists.{entries_at}
use Rattle.game.specs.Network.{Network, used, group_cost, whole_cost, member_count}
use Rattle.game.specs.Group.{group_by_number}
use Rattle.game.specs.Core.{Core}
use Rattle.game.proofs.NaturalShares.{has, core_all, core_group, groups_core}

module _ (n : Network) (classes : ℕ) (cost : ℕ → ℕ → ℕ)
    (adds : (k : ℕ) → In n.arcs k → n.cost k ≡ sum₀ classes (λ c. cost c k)) where
  -- the network with the costs of class c
  abbrev in_class : ℕ → Network
  in_class c = record { arcs = n.arcs; parent = n.parent; member = n.member; cost = cost c }

  added_group : (g : ℕ → Bool) → group_cost n g ≡ sum₀ classes (λ c. group_cost (in_class c) g)
  unfolding group_cost used
  added_group g =
      sum_cong n.arcs
      (λ k i. ap (pick (used n g k)) (adds k i) ∙ sym (sum₀_pick (used n g k) classes (λ c. cost c k)))
      ∙ sym (sum₀_swap classes n.arcs (λ c k. pick (used n g k) (cost c k)))

  added_whole : whole_cost n ≡ sum₀ classes (λ c. whole_cost (in_class c))
  unfolding whole_cost
  added_whole = sum_cong n.arcs adds ∙ sym (sum₀_swap classes n.arcs cost)

  module _ (lists : ℕ → List ℕ) where
    -- each member's shares added over the classes
    abbrev added : List ℕ
    added = entries (member_count n) (λ j. sum₀ classes (λ c. get_or (lists c) j 0))

    added_has : (g : ℕ → Bool) → has n added g ≡ sum₀ classes (λ c. has (in_class c) (lists c) g)
    added_has g =
        sum₀_cong (member_count n)
        (λ j h.
        ap (pick (g j)) (entries_at (λ i. sum₀ classes (λ c. get_or (lists c) i 0)) 0 (member_count n) j h)
        ∙ sym (sum₀_pick (g j) classes (λ c. get_or (lists c) j 0)))
        ∙ sum₀_swap₀ (member_count n) classes (λ j c. pick (g j) (get_or (lists c) j 0))

    pub added_core : ((c : ℕ) → c < classes → Core (in_class c) (map pos (lists c))) → Core n (map pos added)
    added_core cores =
        groups_core n added
        (added_has (λ j. true)
        ∙ sum₀_cong classes (λ c h. core_all (in_class c) (lists c) (cores c h))
        ∙ sym added_whole)
        (λ g.
        omega (
          arith,
          added_has g,
          added_group (group_by_number n g),
          sum₀_mono classes {f = λ c. has (in_class c) (lists c) g} {g = λ c. group_cost (in_class c) (group_by_number n g)}
              (λ c h. core_group (in_class c) (lists c) (cores c h) g),
        ))
