-- The marks of a branch as the passes ask for them, and the answer by the branch's network.
use Prim.Native.Nat.{ℕ, ◌-◌, ◌≤◌}
use mathlib.Core.Path.{◌≡◌, sym, ap, ◌∙◌}
use mathlib.Core.Bool.{true}
use mathlib.Core.List.{List, [], ◌++◌}
use native.Mathlib.Omega.{arith}
use lib.ListN.{length, take, length-append}
use lib.Dec.{ltb}
use Rattle.basics.specs.Sum.{pick}
use Rattle.basics.proofs.Bools.{and_first}
use Rattle.basics.proofs.Lists.{front_part, list_length}
use Rattle.game.specs.Network.{at_or_below, member_count}
use Rattle.game.specs.Tree.{Tree, tree_of, of_arc, marked, network}
use Rattle.game.specs.Branch.{branch_marks}
use Rattle.game.specs.ByArc.{user_count}
use Rattle.game.specs.Margin.{widest, shares_at}
use Rattle.game.proofs.Branch.{branch_member, branch_count}
use Rattle.answer_forms.specs.Answer.{Answer, accepted, fault, ◌then◌, answer, written}
use Rattle.answers.specs.Checks.{tree_check, output_check}
use Rattle.answers.specs.Margin.{MarginValue, leaves_source, branch_at, margin_answer, margin_list}
use Rattle.answers.proofs.Accepted.{tree_accepted}
use Rattle.tree.specs.Passes.{Marked}
use Rattle.engine.specs.Inner.{margin_at}
use Rattle.tree.proofs.TreeAccepted.{accepted_marked}

module _ (t : Tree) (ok : tree_check t ≡ accepted) (arc : ℕ) where
  marks_length : length (branch_marks t arc) ≡ length t.parents
  unfolding branch_marks
  marks_length =
      list_length (λ v. pick (at_or_below (network t) arc v) (of_arc t.marks v)) (length t.parents)

  -- only a marked vertex is marked in the branch
  pub branch_marked : Marked t.parents (branch_marks t arc)
  branch_marked =
      let marks = accepted_marked t ok in
      record {
        sized = marks_length;
        ends = λ v m.
            marks.ends v
            (and_first (marked t.marks v) (at_or_below (network t) arc v)
            (sym (branch_member t marks.sized arc v) ∙ m));
      }

  -- a local list whose front holds the branch's marks, which do not depend on the costs
  module _ {ms : List ℕ} (given : ms ≡ branch_marks (tree_of t.parents [] t.marks) arc) (rest : List ℕ) where
    are : ms ≡ branch_marks t arc
    unfolding branch_marks
    are = given

    pub marks_room : length t.parents ≤ length (ms ++ rest)
    marks_room = omega (arith, ap length are, marks_length, length-append ms rest)

    pub marks_part : take (length t.parents - 0) (ms ++ rest) ≡ branch_marks t arc
    marks_part = front_part ms rest (length t.parents) (ap length are ∙ marks_length) ∙ are

  -- the arc has as many users as its branch has members
  pub same_count : member_count (branch_at t arc) ≡ user_count (network t) arc
  same_count = branch_count t (tree_accepted t ok).one_a_vertex arc

  module _ (leaves : leaves_source t.parents arc ≡ true) (out : List ℕ) where
    pub branch_answer : {a : Answer MarginValue}
        → a ≡ answer
        (fault (ltb (member_count (branch_at t arc)) 2) 26 arc then output_check (member_count (branch_at t arc)) out)
        (margin_at (branch_at t arc) arc)
        → a ≡ margin_answer t arc out
    unfolding margin_answer
    branch_answer e = rw (ok, leaves, ← same_count) e

    pub branch_list : {l : List ℕ}
        → l ≡ written
        (fault (ltb (member_count (branch_at t arc)) 2) 26 arc then output_check (member_count (branch_at t arc)) out)
        out (shares_at (branch_at t arc) (widest (branch_at t arc) arc))
        → l ≡ margin_list t arc out
    unfolding margin_list
    branch_list e = rw (ok, leaves, ← same_count) e
