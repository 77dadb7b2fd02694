-- The counted costs of a tree: an arc that nobody uses costs nothing.
use Prim.Native.Nat.{ℕ, zero, suc, ◌≤◌}
use mathlib.Core.Path.{◌≡◌, sym, ◌∙◌}
use mathlib.Core.Bool.{true, false}
use mathlib.Core.Logic.{⊎_elim}
use native.Mathlib.Decide.{dec_lt}
use native.Mathlib.Omega.{arith}
use lib.ListN.{length, get_or-eq_default}
use Rattle.basics.specs.Sum.{pick}
use Rattle.basics.proofs.Bools.{both, pick_yes, pick_no, pick_le}
use Rattle.basics.proofs.Sums.{In, sum_cong}
use Rattle.basics.proofs.Lists.{list_length, list_is}
use Rattle.game.specs.Network.{Network, used, group_cost, everyone, whole_cost}
use Rattle.game.specs.Tree.{Tree, of_arc, network_of, counted, counted_costs, network}
use Rattle.game.proofs.ArcEntries.{of_list}

-- an arc that nobody uses costs nothing
abbrev pub UnusedFree : Network → Type 0
UnusedFree n = (e : ℕ) → In n.arcs e → used n everyone e ≡ false → n.cost e ≡ 0

-- then everyone together costs the whole
pub everyone_pays_whole : (n : Network) → UnusedFree n → group_cost n everyone ≡ whole_cost n
unfolding group_cost whole_cost
everyone_pays_whole n free =
    sum_cong n.arcs
    (λ k i.
    ⊎_elim
    (λ (u : used n everyone k ≡ true). pick_yes (n.cost k) u)
    (λ (u : used n everyone k ≡ false). pick_no (n.cost k) u ∙ sym (free k i u))
    (both (used n everyone k)))

module _ (t : Tree) where
  -- who uses an arc does not depend on the costs
  pub counted_at : (k : ℕ) → In (length t.parents) k
      → of_arc (counted_costs t) k ≡ pick (used (network t) everyone k) (of_arc t.costs k)
  unfolding counted_costs used
  counted_at = of_list (length t.parents) (counted (network_of t.parents t.costs t.marks))

  pub counted_length : length (counted_costs t) ≡ length t.parents
  unfolding counted_costs
  counted_length = list_length (counted (network_of t.parents t.costs t.marks)) (length t.parents)

  pub counted_le : (k : ℕ) → of_arc (counted_costs t) k ≤ of_arc t.costs k
  counted_le zero = omega arith
  counted_le (suc i) =
      elim (dec_lt i (length t.parents)) [
        | yes h ↦ omega (
          arith,
          counted_at (suc i) (omega arith),
          pick_le (used (network t) everyone (suc i)) (of_arc t.costs (suc i)),
        )
        | no h ↦ omega (arith, get_or-eq_default (counted_costs t) 0 {n = i} (omega (arith, counted_length)))
      ]

  pub unused_free : UnusedFree (network t)
  unused_free k i u = counted_at k i ∙ pick_no (of_arc t.costs k) u

  -- where every arc has a user, the counted costs are the costs as they are handed in
  pub counted_as_given : length t.costs ≡ length t.parents
      → ((k : ℕ) → In (length t.parents) k → used (network t) everyone k ≡ true) → counted_costs t ≡ t.costs
  unfolding counted_costs used
  counted_as_given sized all =
      sym
      (list_is (counted (network_of t.parents t.costs t.marks)) 0 (length t.parents) t.costs sized
      (λ i h. sym (pick_yes (of_arc t.costs (suc i)) (all (suc i) (omega arith)))))
