-- The parts of a class lie within the lists of an accepted tree with costs in classes, which are small.
use Prim.Native.Nat.{ℕ, ◌+◌, ◌*◌, ◌≤◌, ◌<◌}
use mathlib.Core.Path.{◌≡◌, sym, ap, ◌∙◌}
use mathlib.Core.List.{List, []}
use native.Mathlib.Nat.{mul-le-mul}
use native.Mathlib.Omega.{arith}
use lib.ListN.{length}
use Rattle.game.specs.Network.{member_count, members_to}
use Rattle.game.specs.Tree.{marked, network_of}
use Rattle.limits.specs.Limits.{most_classes}
use Rattle.answer_forms.specs.Answer.{accepted}
use Rattle.answers.specs.Classes.{Classed, summed_tree, class_members, classed_check}
use Rattle.answers.proofs.Accepted.{Accepted, tree_accepted}
use Rattle.answers.proofs.Limits.{members_bound}
use Rattle.answers.proofs.ClassParts.{part_within}
use Rattle.answers.proofs.Classed.{few_classes, all_costs, summed_accepted}
use Rattle.tree.proofs.MembersListed.{written_count}
use Rattle.tree.proofs.TreeAccepted.{accepted_marked}

-- class c's part lies within the costs, and its shares within the list for them
pub record Fits (w : Classed) (vs out : List ℕ) (c : ℕ) : Type 0 where
  pub few : c < most_classes
  pub in_costs : c * length w.parents + length w.parents ≤ length w.costs
  pub in_out : c * length vs + length vs ≤ length out
  pub few_costs : length w.costs ≤ 4092
  pub few_shares : length out ≤ 4092

module _ (w : Classed) (ok : classed_check w ≡ accepted) (vs out : List ℕ)
    (are : vs ≡ members_to (marked w.marks) (length w.marks))
    (long : length out ≡ w.classes * member_count (network_of w.parents [] w.marks)) where
  acc : Accepted (summed_tree w)
  acc = tree_accepted (summed_tree w) (summed_accepted w ok)

  -- one entry a member
  pub one_a_member : length vs ≡ class_members w
  one_a_member = written_count _ _ (accepted_marked (summed_tree w) (summed_accepted w ok)) are

  pub all_shares : length out ≡ w.classes * length vs
  all_shares = long ∙ ap (λ (k : ℕ). w.classes * k) (sym one_a_member)

  pub fits : (c : ℕ) → c < w.classes → Fits w vs out c
  fits c h =
      let most = (few_classes w ok).1 in
      let costs = all_costs w ok in
      record {
        few = omega arith;
        in_costs = omega (arith, part_within (length w.parents) w.classes c h, costs);
        in_out = omega (arith, part_within (length vs) w.classes c h, all_shares);
        few_costs = omega (arith, costs, mul-le-mul most acc.few);
        few_shares = omega (arith, long, mul-le-mul most (members_bound (summed_tree w) acc));
      }
