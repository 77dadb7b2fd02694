use Prim.Native.Nat.{ℕ}
use mathlib.Core.Path.{sym, ap, ◌∙◌}
use Rattle.game.specs.Tree.{tree_of}
use Rattle.answers.specs.Checks.{proposal_check}
use Rattle.answer_forms.proofs.Composed.{went_on}
use Rattle.tree.proofs.TreeAccepted.{accepted_count}
use Rattle.engine.proofs.proposed.check_proposed.Goals as goal

pub returns : goal.returns
returns c =
    let args = c.args in
    let t = tree_of args.parents.now args.costs.now args.marks.now in
    let ok = sym c.in_ok-check_tree.ensures in
    let members = c.count_members.ensures ∙ accepted_count t ok in
    went_on ok (c.check_proposal.ensures ∙ ap (λ (n : ℕ). proposal_check n args.proposal.now) members)
