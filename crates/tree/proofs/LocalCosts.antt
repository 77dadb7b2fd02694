-- The counted costs of a tree in a local list, and what the passes ask for to write them and to go over them. The
-- tree's lists are as the passes ask, so that it may have no member.
use Prim.Native.Nat.{ℕ, ◌-◌, ◌≤◌}
use mathlib.Core.Path.{◌≡◌, ap, ◌∙◌}
use mathlib.Core.List.{List, ◌++◌}
use native.Mathlib.Omega.{arith}
use lib.ListN.{length, take, replicate, length-append}
use Rattle.limits.specs.Limits.{most_arcs}
use Rattle.basics.specs.Sum.{sum}
use Rattle.basics.proofs.Lists.{front_part, zeros_length}
use Rattle.game.specs.Network.{whole_cost}
use Rattle.game.specs.Tree.{Tree, of_arc, counted_costs, network}
use Rattle.game.proofs.Counted.{counted_length, counted_le}
use Rattle.tree.specs.Passes.{Sound, Costed, Marked}

-- a local list whose front holds the counted costs
module _ (t : Tree) {cs : List ℕ} (are : cs ≡ counted_costs t) where
  sized : length cs ≡ length t.parents
  sized = ap length are ∙ counted_length t

  -- it holds an entry for every arc
  pub counted_room : (rest : List ℕ) → length t.parents ≤ length (cs ++ rest)
  counted_room rest = omega (arith, sized, length-append cs rest)

  pub counted_part : (rest : List ℕ) → take (length t.parents - 0) (cs ++ rest) ≡ counted_costs t
  counted_part rest = front_part cs rest (length t.parents) sized ∙ are

  -- they add up to the whole cost
  pub counted_whole : (rest : List ℕ)
      → sum (length (take (length t.parents - 0) (cs ++ rest))) (of_arc (take (length t.parents - 0) (cs ++ rest)))
      ≡ whole_cost (network t)
  unfolding whole_cost
  counted_whole rest =
      rw (counted_part rest)
      (ap (λ (k : ℕ). sum k (of_arc (counted_costs t))) (counted_length t))

module _ (t : Tree) (sound : Sound t.parents) (costed : Costed t.parents t.costs)
    (marks : Marked t.parents t.marks) where
  -- what the pass asks for that writes the counted costs to the local list
  pub sound_lent : Sound t.parents
      × (Costed t.parents t.costs
      × (Marked t.parents t.marks
      × (length {A = ℕ} (take (length t.parents - 0) (replicate most_arcs 0)) ≡ length t.parents)))
  sound_lent = (sound, (costed, (marks, zeros_length most_arcs (length t.parents) sound.few)))

  -- and what the others ask for, at the counted costs
  pub sound_lists : {cs : List ℕ} → cs ≡ counted_costs t → (rest : List ℕ)
      → Sound t.parents
      × (Costed t.parents (take (length t.parents - 0) (cs ++ rest)) × Marked t.parents t.marks)
  sound_lists are rest =
      (sound, (rw (counted_part t are rest) counted, marks))
    where
      counted : Costed t.parents (counted_costs t)
      counted =
          record {
            sized = counted_length t;
            limited = λ k. omega (arith, counted_le t k, costed.limited k);
          }
