use Prim.Native.Nat.{ℕ, ◌≤◌}
use mathlib.Core.Path.{◌≡◌, ◌∙◌}
use mathlib.Core.List.{[]}
use native.Mathlib.Omega.{arith}
use Rattle.limits.specs.Limits.{most_arcs}
use Rattle.game.specs.Network.{member_count}
use Rattle.game.specs.Tree.{network_of}
use Rattle.tree.proofs.MembersListed.{members_few, marks_count}
use Rattle.engine.proofs.cap_sums.list_in_tree.Goals as goal

pub slice_bounds-vertices-end : goal.slice_bounds-vertices-end
slice_bounds-vertices-end c =
    let members : ℕ = member_count (network_of c.args.parents.now [] c.args.marks.now) in
    let counted : c.count_members-members.result ≡ members =
    c.count_members-members.ensures ∙ marks_count _ _ c.requires.marked in
    let few : c.count_members-members.result ≤ most_arcs =
    omega (arith, counted, members_few _ c.args.marks.now c.requires.sound) in
    omega (arith, few)
