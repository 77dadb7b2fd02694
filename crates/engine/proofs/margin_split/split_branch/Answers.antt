use Prim.Native.Nat.{ℕ}
use mathlib.Core.Path.{◌≡◌, sym, ap, ◌∙◌, subst}
use mathlib.Core.List.{List}
use native.Mathlib.Omega.{arith}
use borrow.Author.Tests.{ltb-false}
use lib.ListN.{length}
use lib.Dec.{ltb}
use Rattle.game.specs.Network.{member_count}
use Rattle.game.specs.Tree.{Tree, tree_of, network, network_of}
use Rattle.game.proofs.Branched.{Branched}
use Rattle.answer_forms.specs.Answer.{Check, accepted, fault}
use Rattle.answer_forms.proofs.Composed.{no_fault}
use Rattle.answers.specs.Checks.{length_check}
use Rattle.answers.proofs.Accepted.{length_accepted}
use Rattle.tree.proofs.MembersListed.{marks_count}
use Rattle.tree.proofs.LocalCosts.{counted_part, sound_lists}
use Rattle.engine.proofs.margin_split.split_branch.Goals as goal

pub split_accepted-requires : goal.split_accepted-requires
split_accepted-requires c =
    let tree : Tree = tree_of c.args.parents.now c.args.costs.now c.args.marks.now in
    let BranchedAt : List ℕ → Type 0 =
    λ costs. Branched (network_of c.args.parents.now costs c.args.marks.now) c.args.arc in
    let members : ℕ = member_count (network (tree)) in
    let several : ℕ → Check = λ k. fault (ltb k 2) 26 c.args.arc in
    let counted : c.count_members-users.result ≡ members =
    c.count_members-users.ensures ∙ marks_count _ _ c.requires.marked in
    let users_found : accepted ≡ several (members) =
    c.in_ok-check_branch_users.ensures ∙ ap (several) (counted) in
    let several_accepted : several (members) ≡ accepted = sym (users_found) in
    let output : ℕ → Check = λ k. length_check k (length c.args.out.now) in
    let output_found : accepted ≡ output (members) =
    c.in_ok-check_output.ensures ∙ ap (output) (counted) in
    let output_accepted : output (members) ≡ accepted = sym (output_found) in
    let are = c.write_counted.ensures in
    let lists = sound_lists (tree) c.requires.sound c.requires.costed c.requires.marked are _ in
    let whole = subst (BranchedAt) (sym (counted_part (tree) are _)) c.requires.branched in
    let two = ltb-false (members) 2 (no_fault (ltb (members) 2) 26 c.args.arc (several_accepted)) in
    let places = length_accepted _ _ (output_accepted) in
    record {
      sound = lists.0;
      costed = lists.1.0;
      marked = lists.1.1;
      branched = whole;
      bound = omega (arith, two);
      users_value = counted;
      out_len = places;
    }
