use Prim.Native.Nat.{ℕ}
use mathlib.Core.Path.{◌≡◌, ap, ◌∙◌}
use mathlib.Core.List.{List}
use native.Mathlib.Omega.{arith}
use lib.ListN.{length, replicate, length-replicate}
use Rattle.game.specs.Network.{member_count}
use Rattle.game.specs.Tree.{Tree, tree_of, network}
use Rattle.report_text.proofs.Found.{members_listed}
use Rattle.report_text.proofs.Joined.{split_joined}
use Rattle.report_text.proofs.accepted.put_splits.Goals as goal

-- a list of zeros has an entry a member
entries : {l : List ℕ} (n : ℕ) → l ≡ replicate n 0 → length l ≡ n
entries n e = ap length e ∙ length-replicate n 0

pub put_members-requires : goal.put_members-requires
put_members-requires c =
    let tree : Tree = tree_of c.args.parents.now c.args.costs.now c.args.marks.now in
    let n = member_count (network tree) in
    let pre = c.requires in
    let vertices = c.list_members.auto.out ∙ entries n pre.vertices_value in
    let by_arc = c.split_by_arc.auto.out ∙ entries n pre.by_arc_value in
    let shares = c.split_level-level.auto.out ∙ entries n pre.shares_value in
    let level = c.put_level-next.ensures in
    record {
      vertices_len = omega (arith, vertices, pre.proposed_len);
      by_arc_len = omega (arith, by_arc, pre.proposed_len);
      shares_len = omega (arith, shares, pre.proposed_len);
      proposed_in_bounds = omega (arith, pre.proposed_in_bounds, level.put.same_length, level.upper_bound);
    }

pub returns : goal.returns
returns c =
    let tree : Tree = tree_of c.args.parents.now c.args.costs.now c.args.marks.now in
    let pre = c.requires in
    let level = c.split_level-level.ensures in
    let vertices =
    members_listed tree pre.marks_value _ (entries (member_count (network tree)) pre.vertices_value) in
    split_joined _ _ pre.proposed_len _ pre.floors_value pre.by_arc_value pre.shares_value
    c.put_level-next.ensures.put
    c.put_members.ensures
    (c.list_members.ensures.out_after ∙ vertices)
    c.split_by_arc.ensures.out_after level.result_value level.out_after
