-- Bounds that hold on every accepted tree.
use Prim.Native.Nat.{ℕ, zero, suc, ◌<◌, ◌≤◌}
use mathlib.Core.Path.{refl, sym}
use native.Mathlib.Decide.{dec_lt}
use native.Mathlib.Omega.{arith}
use borrow.Author.Tests.{ltb-false}
use lib.ListN.{length, get_or, get_or-eq_default}
use lib.IntN.{pos, nat_abs}
use Rattle.game.specs.Network.{whole_cost, member_count}
use Rattle.game.specs.Tree.{Tree, network, of_arc, marked, counted_costs}
use Rattle.basics.specs.Sum.{pick}
use Rattle.basics.proofs.Bools.{pick_yes}
use Rattle.game.proofs.Counted.{counted_le}
use Rattle.basics.proofs.Sums.{sum_bound, count_le, some_is, term_le}
use Rattle.limits.specs.Limits.{most_cost, most_arcs, most_share}
use Rattle.limits.specs.Inner.{most_whole}
use Rattle.answers.specs.Checks.{outside_share}
use Rattle.answers.specs.Level.{outside_cap}
use Rattle.answers.specs.Limits.{TreeLimits, CapLimits, ProposalLimits}
use Rattle.answers.proofs.Accepted.{Accepted, tree_accepted}
use Rattle.answers.proofs.InRange.{list_accepted}

module _ (t : Tree) (ok : Accepted t) where
  pub whole_bound : whole_cost (network t) ≤ most_whole
  unfolding whole_cost
  whole_bound =
      omega (
        arith,
        sum_bound (length t.parents) most_cost {f = of_arc (counted_costs t)}
            (λ k i. omega (arith, counted_le t k, ok.limited k)),
        ok.few,
      )

  pub members_bound : member_count (network t) ≤ most_arcs
  members_bound = omega (arith, count_le (network t).arcs (network t).member, ok.few)

  anyone : 0 < member_count (network t)
  anyone =
      let s = some_is (length t.parents) (marked t.marks) ok.someone in
      omega (
        arith,
        term_le (length t.parents) s.which (λ k. pick (marked t.marks k) 1) s.within,
        pick_yes {b = marked t.marks s.which} 1 s.passes,
      )

  parent_bound : (k : ℕ) → of_arc t.parents k < most_arcs
  parent_bound zero = omega arith
  parent_bound (suc v) =
      elim (dec_lt v (length t.parents)) [
        | yes h ↦ omega (arith, ok.rooted v, ok.few)
        | no h ↦ omega (arith, get_or-eq_default t.parents 0 {n = v} (omega arith))
      ]

pub tree_limits : TreeLimits
tree_limits t e =
    let ok = tree_accepted t e in
    record {
      arcs = ok.few;
      someone = anyone t ok;
      members = members_bound t ok;
      costs = sym ok.same;
      marks = ok.one_a_vertex;
      parent = parent_bound t ok;
      cost = ok.limited;
    }

pub cap_limits : CapLimits
cap_limits members caps e =
    let ok = list_accepted outside_cap 0 members caps refl e in
    (ok.same, λ j. ltb-false most_share (get_or caps j 0) (ok.inside j))

pub proposal_limits : ProposalLimits
proposal_limits members proposal e =
    let ok = list_accepted outside_share (pos 0) members proposal refl e in
    (ok.same, λ j. ltb-false most_share (nat_abs (get_or proposal j (pos 0))) (ok.inside j))
