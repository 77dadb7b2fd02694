use mathlib.Core.Path.{◌≡◌, sym}
use mathlib.Core.List.{List, []}
use Prim.Native.Nat.{ℕ}
use lib.ListN.{length}
use Rattle.basics.specs.Sum.{list}
use Rattle.game.specs.Network.{sum_below}
use Rattle.game.specs.Tree.{tree_of, Tree, network, network_of}
use Rattle.answer_forms.specs.Answer.{accepted}
use Rattle.answers.specs.Checks.{tree_check}
use Rattle.answers.specs.Level.{cap_sum}
use Rattle.answers.specs.CapSums.{running_sum, cap_sums_answer, cap_sums_list}
use Rattle.answers.proofs.Accepted.{tree_accepted}
use Rattle.answers.proofs.CoreLaws.{members_end}
use Rattle.answers.proofs.RunningSums.{running_list}
use Rattle.tree.proofs.TreeAccepted.{accepted_sound, accepted_marked}
use Rattle.engine.proofs.cap_sums.list_cap_sums.Goals as goal

-- the sums over the users are the running sums; costs do not count
sums_running : (t : Tree) → tree_check t ≡ accepted → (caps : List ℕ)
    → list (length t.parents) (cap_sum (network_of t.parents [] t.marks) caps)
    ≡ list (length t.parents) (running_sum (network t) caps)
unfolding sum_below
sums_running t ok caps =
    let a = tree_accepted t ok in sym (running_list (network t) a.rooted caps (members_end t a))

pub list_in_tree-requires : goal.list_in_tree-requires
list_in_tree-requires c =
    let tree : Tree = tree_of c.args.parents.now c.args.costs.now c.args.marks.now in
    let accepted_tree : tree_check (tree) ≡ accepted = sym c.in_ok-check_tree.ensures in
    let ok = accepted_tree in record { sound = accepted_sound _ ok; marked = accepted_marked _ ok }

pub returns : goal.returns
unfolding cap_sums_answer cap_sums_list
returns c =
    let tree : Tree = tree_of c.args.parents.now c.args.costs.now c.args.marks.now in
    let accepted_tree : tree_check (tree) ≡ accepted = sym c.in_ok-check_tree.ensures in
    let ok = accepted_tree in
    let inner = c.list_in_tree.ensures in
    let same = sums_running (tree) ok c.args.caps.now in
    record { result_value = rw ok inner.result_value; out_after = rw (ok, ← same) inner.out_after }
