-- The branch of an arc from the source of an accepted tree, as a network.
use Prim.Native.Nat.{ℕ}
use mathlib.Core.Path.{◌≡◌}
use mathlib.Core.Bool.{true, ◌&&◌}
use mathlib.Core.List.{List}
use borrow.Author.Tests.{leb-true, eqb-true}
use lib.ListN.{length}
use lib.Dec.{eqb, leb}
use Rattle.basics.proofs.Bools.{and_first, and_second}
use Rattle.basics.proofs.Sums.{In}
use Rattle.game.specs.Tree.{Tree, of_arc}
use Rattle.game.specs.Branch.{branch}
use Rattle.game.proofs.Below.{Rooted}
use Rattle.game.proofs.Excess.{MembersEnd}
use Rattle.game.proofs.Counted.{UnusedFree, unused_free}
use Rattle.game.proofs.Branched.{Branched}
use Rattle.game.proofs.Branch.{branch_member, branch_count, branch_ends, branch_branched, branch_cost, branch_need}
use Rattle.answer_forms.specs.Answer.{accepted}
use Rattle.answers.specs.Checks.{tree_check}
use Rattle.answers.specs.Margin.{leaves_source, branch_at}
use Rattle.answers.specs.MarginLaws.{BranchStatement}
use Rattle.answers.proofs.Accepted.{tree_accepted}
use Rattle.answers.proofs.CoreLaws.{members_end}

-- an arc from the source
pub leaves_accepted : (parents : List ℕ) (arc : ℕ) → leaves_source parents arc ≡ true
    → In (length parents) arc × (of_arc parents arc ≡ 0)
leaves_accepted parents arc e =
    let low = leb 1 arc in
    let high = leb arc (length parents) in
    let source = eqb (of_arc parents arc) 0 in
    let others = and_second low (high && source) e in (
      record {
        low = leb-true 1 arc (and_first low (high && source) e);
        high = leb-true arc (length parents) (and_first high source others);
      },
      eqb-true (of_arc parents arc) 0 (and_second high source others),
    )

module _ (t : Tree) (arc : ℕ) (ok : tree_check t ≡ accepted) where
  pub branch_rooted : Rooted (branch_at t arc)
  branch_rooted = (tree_accepted t ok).rooted

  pub branch_end : MembersEnd (branch_at t arc)
  branch_end =
      let a = tree_accepted t ok in branch_ends t a.one_a_vertex arc (members_end t a)

  pub branch_free : UnusedFree (branch_at t arc)
  branch_free = unused_free (branch t arc)

  pub branch_whole : leaves_source t.parents arc ≡ true → Branched (branch_at t arc) arc
  branch_whole e =
      let l = leaves_accepted t.parents arc e in
      branch_branched t (tree_accepted t ok).one_a_vertex arc l.0 l.1

pub branch_laws : BranchStatement
branch_laws t arc ok e =
    let a = tree_accepted t ok in
    let l = leaves_accepted t.parents arc e in
    record {
      members_are = branch_member t a.one_a_vertex arc;
      as_many = branch_count t a.one_a_vertex arc;
      costs_are = λ k i.
          branch_cost t a.one_a_vertex arc a.rooted l.0 l.1 k
          (record { low = i.first; high = i.last });
      needs_are = λ k i h. branch_need t a.one_a_vertex arc a.rooted l.0 l.1 k h;
    }
