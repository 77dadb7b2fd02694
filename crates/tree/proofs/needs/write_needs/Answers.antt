use Prim.Native.Nat.{ℕ}
use mathlib.Core.Path.{◌≡◌, ap, ◌∙◌}
use mathlib.Core.List.{List, []}
use lib.ListN.{length}
use native.Mathlib.Omega.{arith}
use Rattle.basics.specs.Sum.{sum, list}
use Rattle.game.specs.Network.{sum_below, need, whole_cost}
use Rattle.game.specs.Tree.{network_of, of_arc}
use Rattle.tree.specs.Passes.{Costed}
use Rattle.tree.proofs.Bounds.{costs_bound}
use Rattle.tree.proofs.needs.write_needs.Goals as goal

module _ (ps cs : List ℕ) (costed : Costed ps cs) {xs : List ℕ} (e : xs ≡ cs) where
  all_sum : sum (length xs) (of_arc xs) ≡ sum (length ps) (of_arc cs)
  all_sum = rw e (ap (λ (m : ℕ). sum m (of_arc cs)) costed.sized)

  whole_sum : sum (length xs) (of_arc xs) ≡ whole_cost (network_of ps cs [])
  unfolding whole_cost
  whole_sum = all_sum

  -- who is a member does not count
  sums_needs : list (length ps) (sum_below (network_of ps [] []) (of_arc xs))
      ≡ list (length ps) (need (network_of ps cs []))
  unfolding sum_below
  sums_needs = rw e

pub add_up-requires : goal.add_up-requires
add_up-requires c =
    let pre = c.requires in
    let costed = pre.costed in
    let copied = c.widen.ensures in
    record {
      sound = pre.sound;
      out_len = ap length copied ∙ costed.sized;
      out_bound = omega (arith, all_sum _ _ costed copied, costs_bound _ _ pre.sound costed);
    }

pub returns : goal.returns
returns c =
    let costed = c.requires.costed in
    let copied = c.widen.ensures in
    let sums = c.add_up.ensures in
    record {
      value = sums.value ∙ whole_sum _ _ costed copied;
      out_after = sums.out_after ∙ sums_needs _ _ costed copied;
    }
