-- The laws of the game on every accepted tree.
use Prim.Native.Nat.{ℕ}
use mathlib.Core.Path.{◌≡◌, sym, ap, ◌∙◌, subst}
use mathlib.Core.Bool.{true}
use mathlib.Core.List.{List}
use native.Mathlib.Omega.{arith}
use borrow.Author.Tests.{eqb-true}
use lib.ListN.{length}
use lib.Dec.{eqb}
use Rattle.game.specs.Network.{used, everyone, number}
use Rattle.game.specs.Tree.{network, network_of, of_arc, has_child, dead_ends, counted_costs}
use Rattle.game.specs.Group.{group_by_number}
use Rattle.basics.proofs.Sums.{In}
use Rattle.game.proofs.Below.{Rooted, sum_below_children}
use Rattle.game.proofs.Groups
use Rattle.game.proofs.Users
use Rattle.game.proofs.DeadEnds.{Ends, dead_ends_lem, every_arc_used}
use Rattle.game.proofs.Counted.{everyone_pays_whole, unused_free, counted_as_given}
use Rattle.game.proofs.Numbering
use Rattle.answers.specs.Laws.{ArcOf, Laws}
use Rattle.answers.proofs.Accepted.{tree_accepted}

pub laws : Laws
unfolding has_child
laws t e =
    let ok = tree_accepted t e in
    let n = network t in
    record {
      member_at = λ v a m. Numbering.member_at n.member n.arcs v (within a) m;
      need_of_children = λ k a. sum_below_children n ok.rooted (of_arc (counted_costs t)) k (within a);
      users_of_member = λ k v a b m. Users.users_of_end n ok.rooted k v (within b) (ok.ends k m) m;
      users_of_children = λ k v a b m. Users.users_of_children n ok.rooted k v (within b) m;
      every_arc_used = λ all k a. used_all ok.rooted all k (within a);
      counted_as_given = λ all. counted_as_given t (sym ok.same) (used_all ok.rooted all);
      all_cost_whole = everyone_pays_whole n (unused_free t);
      none_cost_nothing = Groups.empty_cost n;
      larger_costs_no_less = λ g h part. Groups.cost_mono n (group_by_number n g) (group_by_number n h) (λ v. part (number n v));
      submodular = λ i g h chosen part.
          Groups.submodular n (group_by_number n g) (group_by_number n h) (λ v. eqb (number n v) i) (λ v. part (number n v))
          (λ v c d. ap g (eqb-true (number n v) i d) ∙ chosen);
    }
  where
    within : {k : ℕ} → ArcOf t k → In (length t.parents) k
    within a = omega (arith, a.first, a.last)

    used_all : Rooted (network t) → t.marks ≡ dead_ends t.parents
        → (k : ℕ) → In (length t.parents) k → used (network t) everyone k ≡ true
    used_all rooted all =
        every_arc_used (network t) rooted
        (subst (λ (ms : List ℕ). Ends (network_of t.parents (counted_costs t) ms)) (sym all)
        (dead_ends_lem t.parents (counted_costs t)))
