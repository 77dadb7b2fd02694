-- One class: its members' vertices are listed, and the shares by its counted costs are those of its tree.
use Prim.Native.Nat.{ℕ, ◌-◌, ◌≤◌}
use mathlib.Core.Path.{◌≡◌, ap, ◌∙◌}
use mathlib.Core.List.{List, [], ◌++◌}
use native.Mathlib.Omega.{arith}
use lib.ListN.{length, take}
use Rattle.basics.specs.Sum.{total}
use Rattle.game.specs.Network.{member_count, members_to}
use Rattle.game.specs.Tree.{Tree, marked, network_of, network, counted_costs}
use Rattle.game.specs.ByArc.{by_arc}
use Rattle.limits.specs.Inner.{most_whole}
use Rattle.answer_forms.specs.Answer.{accepted}
use Rattle.answers.specs.Checks.{tree_check}
use Rattle.answers.proofs.Accepted.{tree_accepted}
use Rattle.answers.proofs.Limits.{whole_bound}
use Rattle.answers.proofs.ByArcLaws.{by_arc_total}
use Rattle.tree.specs.Passes.{Marked, Listed, network_at}
use Rattle.tree.proofs.MembersListed.{written_listed, written_network, written_count}
use Rattle.tree.proofs.LocalCosts.{counted_part}
use Rattle.tree.proofs.TreeAccepted.{accepted_marked}

module _ (t : Tree) (ok : tree_check t ≡ accepted) {vs : List ℕ}
    (are : vs ≡ members_to (marked t.marks) (length t.marks)) where
  marks : Marked t.parents t.marks
  marks = accepted_marked t ok

  pub members_listed : Listed t.parents vs
  members_listed = written_listed _ _ marks are

  pub listed_count : length vs ≡ member_count (network_of t.parents [] t.marks)
  listed_count = written_count _ _ marks are

  -- with the counted costs at the front of a local list
  module _ {cs : List ℕ} (counted : cs ≡ counted_costs t) (rest : List ℕ) {shares : List ℕ}
      (split : shares ≡ by_arc (network_at t.parents (take (length t.parents - 0) (cs ++ rest)) vs)) where
    pub shares_are : shares ≡ by_arc (network t)
    shares_are =
        split
        ∙ ap by_arc
        (written_network _ _ marks are _
        ∙ ap (λ (l : List ℕ). network_of t.parents l t.marks) (counted_part t counted rest))

    pub shares_small : total (λ x. x) shares ≤ most_whole
    shares_small =
        omega (arith, ap (total (λ x. x)) shares_are, by_arc_total t ok, whole_bound t (tree_accepted t ok))
