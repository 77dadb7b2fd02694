-- The raised needs in a pass from the last arc down that carries each to the arc's parent.
use Prim.Native.Nat.{ℕ, suc, ◌+◌, ◌≤◌, max}
use mathlib.Core.Path.{◌≡◌}
use mathlib.Core.List.{List}
use native.Mathlib.Omega.{arith}
use lib.ListN.{length, get_or, set}
use lib.Dec.{ltb}
use Rattle.basics.specs.Sum.{pick}
use Rattle.game.specs.Network.{Network}
use Rattle.game.specs.Margin.{raised}
use Rattle.game.proofs.Raised.{raised_is}
use Rattle.limits.specs.Inner.{most_whole}
use Rattle.tree.specs.Passes.{network_at}
use Rattle.tree.proofs.InwardPass.{Passing, passing_below, passing_carry, passing_on}
use Rattle.tree.proofs.Vertices.{vertices_count}
use Rattle.margin.specs.Passes.{Given}
use Rattle.margin.proofs.Given.{most_raised, need_at, count_at, children_bound}

module _ (ps cs vs : List ℕ) (d : ℕ) where
  abbrev n : Network
  n = network_at ps cs vs

  module _ {needs counts : List ℕ} (given : Given ps cs vs needs counts) {k j : ℕ} (within : k ≤ length ps)
      (next : k ≡ suc j) {out below : List ℕ} (s : Passing ps (raised n d) out below k) where
    -- the amount that a turn computes, from the arc's need, its users and what its child arcs carried to it
    pub raising_at : {w : ℕ} → w ≡ pick (ltb 0 (get_or counts j 0))
        (max (get_or needs j 0 + pick (ltb (get_or counts j 0) (length vs)) d) (get_or below (j + 1) 0))
        → w ≡ raised n d k
    raising_at ew =
        let place : j + 1 ≡ k = omega arith in
        cc (
          place,
          need_at given within next,
          count_at given within next,
          vertices_count ps vs given.listed,
          passing_below ps (raised n d) given.sound within next s,
          raised_is n given.sound.rising d k (omega arith),
        )

    module _ {parent w : ℕ} (up : parent ≡ get_or ps j 0) (found : w ≡ raised n d k) where
      pub raising_carry : d ≤ most_whole → get_or below parent 0 + w ≤ most_raised
      raising_carry limited =
          rw up
          (passing_carry ps (raised n d) given.sound within next s found most_raised
          (children_bound given d (get_or ps j 0) limited (omega (arith, given.sound.rising j))))

      pub raising_on : Passing ps (raised n d) (set out j w) (set below parent (get_or below parent 0 + w)) j
      raising_on = rw up (passing_on ps (raised n d) given.sound within next s found)
