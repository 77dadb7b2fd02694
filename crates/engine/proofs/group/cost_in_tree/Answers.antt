use Prim.Native.Nat.{ℕ}
use mathlib.Core.Path.{sym, ◌≡◌, ap, ◌∙◌}
use native.Mathlib.Omega.{arith}
use Rattle.game.specs.Network.{member_count}
use Rattle.game.specs.Tree.{network_of}
use Rattle.answer_forms.specs.Answer.{accepted}
use Rattle.answers.specs.Checks.{group_check}
use Rattle.bits.proofs.Beyond.{size_within}
use Rattle.tree.proofs.MembersListed.{members_few, marks_count}
use Rattle.engine.proofs.group.cost_in_tree.Goals as goal

pub returns : goal.returns
returns c =
    let members : ℕ = member_count (network_of c.args.parents.now c.args.costs.now c.args.marks.now) in
    let counted : c.count_members-members.result ≡ members =
    c.count_members-members.ensures ∙ marks_count _ _ c.requires.marked in
    let group : accepted ≡ group_check (members) c.args.group =
    c.in_ok-check_group.ensures ∙ ap (λ (n : ℕ). group_check n c.args.group) (counted) in
    let accepted_group : group_check (members) c.args.group ≡ accepted = sym (group) in
    let few = members_few _ c.args.marks.now c.requires.sound in
    let group = accepted_group in
    let size = size_within (members) c.args.group (omega arith) group in
    rw (group, ← size, c.size_of-size.ensures, c.cost_of-cost.ensures)
