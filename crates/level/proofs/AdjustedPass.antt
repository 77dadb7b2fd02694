-- The adjusted needs in a pass from the last arc down that carries each to the arc's parent. A member's floor waits at
-- its arc.
use Prim.Native.Nat.{ℕ, suc, ◌+◌, ◌≤◌, max}
use mathlib.Core.Path.{◌≡◌, ap}
use mathlib.Core.Bool.{true, false}
use mathlib.Core.Logic.{⊎_elim}
use mathlib.Core.List.{List}
use native.Mathlib.Omega.{arith}
use lib.ListN.{length, get_or, set}
use Rattle.basics.specs.Sum.{list}
use Rattle.basics.proofs.Bools.{both, pick_yes, pick_le}
use Rattle.basics.proofs.Sums.{In, sum_bound}
use Rattle.basics.proofs.Lists.{list_at}
use Rattle.game.specs.Network.{Network, sum_below, need, number}
use Rattle.game.specs.Tree.{of_arc}
use Rattle.game.specs.Floors.{adjusted}
use Rattle.game.specs.Inward.{of_children}
use Rattle.game.proofs.Excess.{no_children}
use Rattle.game.proofs.LevelList.{view, view_off}
use Rattle.game.proofs.Adjusted.{adjusted_member, adjusted_elsewhere, adjusted_limit}
use Rattle.game.proofs.Inward.{children_add, children_mono}
use Rattle.game.proofs.SumBounds.{children_le}
use Rattle.limits.specs.Limits.{most_share}
use Rattle.limits.specs.Inner.{most_whole, most_total}
use Rattle.tree.specs.Passes.{Sound, Costed, Listed, Capped, network_at}
use Rattle.tree.proofs.Bounds.{costs_bound}
use Rattle.tree.proofs.Vertices.{listed_end}
use Rattle.tree.proofs.InwardPass.{Waiting, Passing, passing_below, passing_carry, passing_on}

-- all costs and all floors together
abbrev pub most_adjusted : ℕ
most_adjusted = most_whole + most_total

module _ (ps cs vs fs : List ℕ) (sound : Sound ps) (costed : Costed ps cs) (listed : Listed ps vs) where
  abbrev n : Network
  n = network_at ps cs vs

  -- of the need, the floor and the child arcs' adjusted needs the largest: a member has no child arcs, the others no
  -- floor
  largest : (k : ℕ) → In (length ps) k
      → max (max (need n k) (view n fs k)) (of_children n (adjusted n fs) k) ≡ adjusted n fs k
  largest k i =
      let ends = listed_end ps vs listed cs in
      ⊎_elim
      (λ (m : n.member k ≡ true).
      omega (
        arith,
        adjusted_member n sound.rising ends fs k i m,
        no_children n ends (adjusted n fs) k m,
        pick_yes (get_or fs (number n k) 0) m,
      ))
      (λ (m : n.member k ≡ false).
      omega (arith, adjusted_elsewhere n sound.rising ends fs k i m, view_off n fs k i m))
      (both (n.member k))

  module _ {needs xs : List ℕ} (needs_are : needs ≡ list (length ps) (need n))
      (floors_are : xs ≡ list (length ps) (view n fs)) {k j : ℕ} (within : k ≤ length ps) (next : k ≡ suc j)
      {out below : List ℕ} (waiting : Waiting xs out k) (s : Passing ps (adjusted n fs) out below k) where
    -- the adjusted need that a turn computes
    pub adjusting_at : {own w : ℕ} → own ≡ max (get_or needs j 0) (get_or out j 0)
        → w ≡ max own (get_or below (j + 1) 0) → w ≡ adjusted n fs k
    adjusting_at eo ew =
        let place : j + 1 ≡ k = omega arith in
        omega (
          arith,
          ap (λ (u : ℕ). get_or below u 0) place,
          ap (λ (l : List ℕ). get_or l j 0) needs_are,
          list_at (need n) 0 (length ps) j (omega arith),
          ap (need n) next,
          waiting.same j (omega arith),
          ap (λ (l : List ℕ). get_or l j 0) floors_are,
          list_at (view n fs) 0 (length ps) j (omega arith),
          ap (view n fs) next,
          passing_below ps (adjusted n fs) sound within next s,
          largest k (omega arith),
        )

  -- the adjusted needs of a vertex's child arcs, together
  children_bound : Capped (length vs) fs → (v : ℕ) → v ≤ length ps → of_children n (adjusted n fs) v ≤ most_adjusted
  children_bound capped v h =
      omega (
        arith,
        children_mono n (adjusted n fs) (λ u. need n u + sum_below n (view n fs) u) v
            (λ u i e. adjusted_limit n sound.rising (listed_end ps vs listed cs) fs u i),
        children_add n (need n) (sum_below n (view n fs)) v,
        children_le n sound.rising (of_arc cs) v h,
        children_le n sound.rising (view n fs) v h,
        costs_bound ps cs sound costed,
        sum_bound (length ps) most_share {f = view n fs}
            (λ u i. omega (arith, pick_le (n.member u) (get_or fs (number n u) 0), capped.limited (number n u))),
        sound.few,
      )

  module _ {k j : ℕ} (within : k ≤ length ps) (next : k ≡ suc j) {out below : List ℕ}
      (s : Passing ps (adjusted n fs) out below k) {parent w : ℕ} (up : parent ≡ get_or ps j 0)
      (found : w ≡ adjusted n fs k) where
    pub adjusting_carry : Capped (length vs) fs → get_or below parent 0 + w ≤ most_adjusted
    adjusting_carry capped =
        rw up
        (passing_carry ps (adjusted n fs) sound within next s found most_adjusted
        (children_bound capped (get_or ps j 0) (omega (arith, sound.rising j))))

    pub adjusting_on : Passing ps (adjusted n fs) (set out j w) (set below parent (get_or below parent 0 + w)) j
    adjusting_on = rw up (passing_on ps (adjusted n fs) sound within next s found)
