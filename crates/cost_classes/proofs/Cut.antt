-- Sums that are cut just above the limit: the check of the tree finds the same.
use Prim.Native.Nat.{ℕ, suc, ◌-◌, ◌≤◌}
use mathlib.Core.Path.{◌≡◌, sym, ap, ◌∙◌}
use mathlib.Core.List.{List, ◌++◌}
use native.Mathlib.Decide.{dec_lt}
use native.Mathlib.Omega.{arith}
use borrow.Author.Tests.{lt-ltb, le-ltb}
use lib.ListN.{length, take, replicate, length-append}
use lib.Dec.{ltb}
use Rattle.basics.specs.Sum.{sum₀, list, smaller}
use Rattle.basics.proofs.Bools.{smaller_is}
use Rattle.basics.proofs.Lists.{list_length, front_part, zeros_length}
use Rattle.game.specs.Tree.{tree_of, of_arc}
use Rattle.game.proofs.ArcEntries.{of_list}
use Rattle.limits.specs.Limits.{most_arcs, most_cost}
use Rattle.answers.specs.Checks.{tree_check}
use Rattle.answers.specs.Classes.{Classed, part, summed_cost, summed_costs, summed_tree}
use Rattle.answers.proofs.Classed.{check_by_costs, summed_length}

-- a number and itself cut are above the limit alike
above_alike : (x : ℕ) → ltb most_cost (smaller x (suc most_cost)) ≡ ltb most_cost x
above_alike x =
    elim (dec_lt most_cost x) [
      | yes h ↦
          lt-ltb most_cost (smaller x (suc most_cost)) (omega (arith, smaller_is x (suc most_cost)))
          ∙ sym (lt-ltb most_cost x h)
      | no h ↦
          le-ltb most_cost (smaller x (suc most_cost)) (omega (arith, smaller_is x (suc most_cost)))
          ∙ sym (le-ltb most_cost x (omega arith))
    ]

module _ (w : Classed) where
  abbrev cut_at : ℕ → ℕ
  cut_at k = smaller (summed_cost w k) (suc most_cost)

  -- as it is written, for so many arcs
  abbrev cut_sums : ℕ → List ℕ
  cut_sums m = list m (λ k. smaller (sum₀ w.classes (λ c. of_arc (part m c w.costs) k)) (suc most_cost))

  cut_check : tree_check (tree_of w.parents (list (length w.parents) cut_at) w.marks)
      ≡ tree_check (summed_tree w)
  unfolding summed_costs
  cut_check =
      let m = length w.parents in
      check_by_costs w.parents (list m cut_at) (summed_costs w) w.marks (list_length cut_at m ∙ sym (summed_length w))
      (λ k i.
      ap (ltb most_cost) (of_list m cut_at k i)
      ∙ above_alike (summed_cost w k)
      ∙ ap (ltb most_cost) (sym (of_list m (summed_cost w) k i)))

  -- the cut sums written at the front of a local list of zeros
  module _ (few : length w.parents ≤ most_arcs) {cs : List ℕ}
      (are : cs ≡ cut_sums (length {A = ℕ} (take (length w.parents - 0) (replicate most_arcs 0)))) where
    cut_are : cs ≡ cut_sums (length w.parents)
    cut_are = are ∙ ap cut_sums (zeros_length most_arcs (length w.parents) few)

    cut_length : length cs ≡ length w.parents
    cut_length = ap length cut_are ∙ list_length cut_at (length w.parents)

    pub cut_room : (rest : List ℕ) → length w.parents ≤ length (cs ++ rest)
    cut_room rest = omega (arith, cut_length, length-append cs rest)

    -- what the tree's check finds at that front
    pub cut_front : (rest : List ℕ)
        → tree_check (tree_of w.parents (take (length w.parents - 0) (cs ++ rest)) w.marks)
        ≡ tree_check (summed_tree w)
    cut_front rest = rw (front_part cs rest (length w.parents) cut_length, cut_are) cut_check
