-- Demand 2 of the by-arc split.
use Prim.Native.Nat.{ℕ}
use mathlib.Core.Path.{◌≡◌, ap, ◌∙◌}
use mathlib.Core.Bool.{true, false}
use mathlib.Core.Logic.{inl, inr, ⊎_elim}
use mathlib.Core.List.{map}
use lib.ListN.{get_or}
use lib.IntN.{pos}
use Rattle.basics.specs.Sum.{sum₀, total}
use Rattle.game.specs.Network.{Network, member_count, whole_cost, used, everyone}
use Rattle.game.specs.Tree.{Tree, network}
use Rattle.game.specs.Core.{Core}
use Rattle.game.specs.ByArc.{gift, by_arc}
use Rattle.game.specs.Shapley.{Even}
use Rattle.basics.proofs.Bools.{both}
use Rattle.basics.proofs.Sums.{In}
use Rattle.basics.proofs.Totals.{total_places}
use Rattle.game.proofs.Counted.{unused_free}
use Rattle.game.proofs.Core.{need_to_core}
use Rattle.game.proofs.NaturalShares.{core_all}
use Rattle.game.proofs.Shapley.{shapley_by_arcs, whole_part}
use Rattle.game.proofs.Even.{even_near}
use Rattle.game.proofs.Gifts.{gift_even}
use Rattle.game.proofs.EvenCore.{even_core}
use Rattle.game.proofs.ByArc.{used_count, by_arc_length, by_arc_at}
use Rattle.answer_forms.specs.Answer.{accepted}
use Rattle.answer_forms.proofs.Composed.{first_accepted}
use Rattle.answers.specs.Checks.{tree_check, output_check}
use Rattle.answers.specs.ByArc.{by_arc_list}
use Rattle.answers.specs.ByArcLaws.{ByArcLaws, ByArcStatement}
use Rattle.answers.proofs.Accepted.{Accepted, tree_accepted}
use Rattle.answers.proofs.CoreLaws.{members_end}
use Rattle.answers.proofs.CorePasses.{core_passes}
use Rattle.answers.proofs.InTurn.{in_turn}

module _ (t : Tree) (ok : tree_check t ≡ accepted) where
  acc : Accepted t
  acc = tree_accepted t ok

  abbrev n : Network
  n = network t

  gifts : (k : ℕ) → In n.arcs k → Even n k (gift n k)
  gifts k i =
      gift_even n k
      (⊎_elim
      (λ (u : used n everyone k ≡ true). inl (used_count n k u))
      (λ (u : used n everyone k ≡ false). inr (unused_free t k i u))
      (both (used n everyone k)))

  core : Core n (map pos (by_arc n))
  core =
      need_to_core n acc.rooted (members_end t acc) (map pos (by_arc n))
      (even_core n (by_arc n) (gift n) gifts (by_arc_at n) acc.rooted)

  pub by_arc_of_tree : ByArcLaws t (by_arc (network t))
  by_arc_of_tree =
      record {
        one_a_member = by_arc_length n;
        from_arcs = by_arc_at n;
        even = λ k arc. gifts k (record { low = arc.first; high = arc.last });
        in_turn = λ k arc u. in_turn n k arc.last (used_count n k u);
        in_core = core;
        passes = core_passes t ok (by_arc n) (by_arc_length n) core;
        near = λ j h. rw (by_arc_at n j h) (even_near n j h acc.rooted (gift n) gifts);
        theorem_1 = shapley_by_arcs n;
        whole_part = λ k a u. whole_part n k (used_count n k u);
      }

  -- the shares add up to the whole cost
  pub by_arc_total : total (λ x. x) (by_arc (network t)) ≡ whole_cost (network t)
  by_arc_total =
      total_places (λ x. x) (by_arc n)
      ∙ ap (λ (k : ℕ). sum₀ k (λ j. get_or (by_arc n) j 0)) (by_arc_length n)
      ∙ core_all n (by_arc n) core

pub by_arc_laws : ByArcStatement
unfolding by_arc_list
by_arc_laws t out ok =
    rw ok (by_arc_of_tree t (first_accepted (tree_check t) (output_check (member_count (network t)) out) ok))
