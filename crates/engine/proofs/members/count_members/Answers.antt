use mathlib.Core.Path.{sym, ◌≡◌}
use Rattle.game.specs.Tree.{tree_of, Tree}
use Rattle.answer_forms.specs.Answer.{accepted}
use Rattle.answers.specs.Checks.{tree_check}
use Rattle.answers.specs.Members.{member_count_answer}
use Rattle.tree.proofs.TreeAccepted.{accepted_count}
use Rattle.engine.proofs.members.count_members.Goals as goal

pub returns : goal.returns
unfolding member_count_answer
returns c =
    let tree : Tree = tree_of c.args.parents.now c.args.costs.now c.args.marks.now in
    let accepted_tree : tree_check (tree) ≡ accepted = sym c.in_ok-check_tree.ensures in
    let ok = accepted_tree in
    rw (ok, c.count_members.ensures, accepted_count _ ok)
