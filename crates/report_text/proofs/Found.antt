-- What the entries answer, and write, for an accepted tree and lists of the right length.
use Prim.Native.Nat.{ℕ, ◌≤◌}
use mathlib.Core.Path.{◌≡◌}
use mathlib.Core.List.{List}
use borrow.Author.Tests.{eq-eqb}
use lib.ListN.{length}
use Rattle.limits.specs.Limits.{most_arcs}
use Rattle.game.specs.Network.{whole_cost, member_count, members}
use Rattle.game.specs.Tree.{Tree, network}
use Rattle.answer_forms.specs.Answer.{accepted, value}
use Rattle.answers.specs.Checks.{tree_check, length_check}
use Rattle.answers.specs.Members.{members_list}
use Rattle.answers.specs.Needs.{needs_answer}
use Rattle.answers.proofs.Limits.{tree_limits}

exact : (wanted found : ℕ) → found ≡ wanted → length_check wanted found ≡ accepted
exact wanted found e = rw (eq-eqb found wanted e)

-- a list with an entry a member is within 1,023
pub few_members : (t : Tree) (n : ℕ) → tree_check t ≡ accepted → n ≡ member_count (network t) → n ≤ most_arcs
few_members t n tree e = rw e (tree_limits t tree).members

module _ (t : Tree) (tree : tree_check t ≡ accepted) (out : List ℕ) where
  pub needs_found : length out ≡ length t.parents
      → needs_answer t out ≡ value (record { whole = whole_cost (network t); members = member_count (network t) })
  unfolding needs_answer
  needs_found e = rw (tree, exact (length t.parents) (length out) e)

  pub members_listed : length out ≡ member_count (network t) → members_list t out ≡ members (network t)
  unfolding members_list
  members_listed e = rw (tree, exact (member_count (network t)) (length out) e)
