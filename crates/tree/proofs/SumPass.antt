-- Sums in a pass from the last arc down that carries each arc's sum to the arc's parent.
use Prim.Native.Nat.{ℕ, suc, ◌+◌, ◌-◌, ◌≤◌, ◌<◌}
use mathlib.Core.Path.{◌≡◌, refl, ap}
use mathlib.Core.List.{List, []}
use native.Mathlib.Omega.{arith}
use lib.ListN.{length, get_or, set, replicate}
use Rattle.basics.specs.Sum.{sum}
use Rattle.game.specs.Network.{sum_below}
use Rattle.game.specs.Tree.{network_of, of_arc}
use Rattle.game.proofs.Below.{sum_below_children, sum_from_source}
use Rattle.game.proofs.SumBounds.{sum_below_le, children_le}
use Rattle.tree.specs.Passes.{Sound}
use Rattle.tree.proofs.Carry.{amounts, child}
use Rattle.tree.proofs.InwardPass.{Waiting, waiting_on, Passing, passing_start, passing_below, passing_carry}
use Rattle.tree.proofs.InwardPass.{passing_on}

module _ (ps xs : List ℕ) where
  -- an arc's entry and those of all arcs below it
  abbrev pub total : ℕ → ℕ
  total = sum_below (network_of ps [] []) (of_arc xs)

  -- with the arcs 1 to k still to come: the places from k on hold sums, those below k their entries
  pub record Summing (out below : List ℕ) (k : ℕ) : Type 0 where
    pub waiting : Waiting xs out k
    pub passing : Passing ps total out below k

  pub summing_start : {k : ℕ} → k ≡ length ps → length xs ≡ length ps → Summing xs (replicate 1024 0) k
  summing_start e l = record { waiting = record { same = λ i h. refl }; passing = passing_start ps total e l }

  module _ (sound : Sound ps) (k j : ℕ) (within : k ≤ length ps) (next : k ≡ suc j) {out below : List ℕ}
      (s : Summing out below k) where
    -- the sums of arc k's children and its own entry
    pub summing_at : get_or below k 0 + get_or out j 0 ≡ total k
    summing_at =
        omega (
          arith,
          s.waiting.same j (omega arith),
          passing_below ps total sound within next s.passing,
          sum_below_children (network_of ps [] []) sound.rising (of_arc xs) k (omega arith),
          ap (of_arc xs) next,
        )

  module _ (sound : Sound ps) (sized : length xs ≡ length ps) where
    all_entries : sum (length ps) (of_arc xs) ≡ sum (length xs) (of_arc xs)
    all_entries = rw sized

    pub summing_whole : {out below : List ℕ} {k : ℕ} → k ≡ 0 → Summing out below k
        → get_or below 0 0 ≡ sum (length xs) (of_arc xs)
    summing_whole {below} {k} e s =
        omega (
          arith,
          s.passing.carried.lacks 0 (omega arith),
          ap (λ (i : ℕ). sum i (child amounts ps total 0)) e,
          sum_from_source (network_of ps [] []) sound.rising (of_arc xs),
          all_entries,
        )

    -- the turn of arc k, whose entry is that at k - 1
    module _ {k : ℕ} (low : 0 < k) (within : k ≤ length ps) {out below : List ℕ} (s : Summing out below k) where
      next : k ≡ suc (k - 1)
      next = omega arith

      abbrev p : ℕ
      p = get_or ps (k - 1) 0

      -- the sums of the arc's children and its own entry
      abbrev found : ℕ
      found = get_or below (k - 1 + 1) 0 + get_or out (k - 1) 0

      found_is : found ≡ total k
      found_is =
          let up : k - 1 + 1 ≡ k = omega arith in
          rw up (summing_at sound k (k - 1) within next s)

      pub summing_fits : found ≤ sum (length xs) (of_arc xs)
      summing_fits = omega (arith, found_is, sum_below_le (network_of ps [] []) (of_arc xs) k, all_entries)

      pub summing_carry : get_or below p 0 + found ≤ sum (length xs) (of_arc xs)
      summing_carry =
          passing_carry ps total sound within next s.passing found_is (sum (length xs) (of_arc xs))
          (omega (
            arith,
            children_le (network_of ps [] []) sound.rising (of_arc xs) p (omega (arith, sound.rising (k - 1))),
            all_entries,
          ))

      pub summing_on : Summing (set out (k - 1) found) (set below p (get_or below p 0 + found)) (k - 1)
      summing_on =
          record {
            waiting = waiting_on next found s.waiting;
            passing = passing_on ps total sound within next s.passing found_is;
          }
