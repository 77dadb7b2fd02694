use Prim.Native.Nat.{ℕ}
use mathlib.Core.Path.{◌≡◌, refl, sym, ap, ◌∙◌}
use native.Mathlib.Omega.{arith}
use lib.ListN.{length}
use Rattle.game.specs.Network.{member_count, members_to, Network}
use Rattle.game.specs.Tree.{tree_of, Tree, network}
use Rattle.answer_forms.specs.Answer.{accepted}
use Rattle.answers.specs.Checks.{tree_check, length_check}
use Rattle.answers.specs.Members.{members_answer, members_list}
use Rattle.answers.proofs.Accepted.{length_accepted}
use Rattle.tree.proofs.TreeAccepted.{accepted_sound, accepted_marked, accepted_count}
use Rattle.std.proofs.lemmas.Result.{err_from_is_err_and}
use Rattle.engine.proofs.members.list_members.Goals as goal

pub write_members-requires : goal.write_members-requires
write_members-requires c =
    let tree : Tree = tree_of c.args.parents.now c.args.costs.now c.args.marks.now in
    let accepted_tree : tree_check (tree) ≡ accepted = sym c.in_ok-check_tree.ensures in
    let net : Network = network (tree) in
    let counted : c.count_members-n.result ≡ member_count (net) =
    c.count_members-n.ensures ∙ accepted_count _ (accepted_tree) in
    let output : accepted ≡ length_check (member_count (net)) (length c.args.out.now) =
    c.in_ok-check_output.ensures
    ∙ ap (λ (n : ℕ). length_check n (length c.args.out.now)) (counted) in
    let accepted_output : length_check (member_count (net)) (length c.args.out.now) ≡ accepted =
    sym (output) in
    let ok = accepted_tree in
    record {
      marks_len_bound = omega (arith, (accepted_marked _ ok).sized, (accepted_sound _ ok).few);
      out_len = length_accepted _ _ (accepted_output) ∙ sym (accepted_count _ ok);
    }

pub returns : goal.returns
unfolding members_answer members_list
returns c =
    let tree : Tree = tree_of c.args.parents.now c.args.costs.now c.args.marks.now in
    let accepted_tree : tree_check (tree) ≡ accepted = sym c.in_ok-check_tree.ensures in
    let net : Network = network (tree) in
    let counted : c.count_members-n.result ≡ member_count (net) =
    c.count_members-n.ensures ∙ accepted_count _ (accepted_tree) in
    let output : accepted ≡ length_check (member_count (net)) (length c.args.out.now) =
    c.in_ok-check_output.ensures
    ∙ ap (λ (n : ℕ). length_check n (length c.args.out.now)) (counted) in
    let accepted_output : length_check (member_count (net)) (length c.args.out.now) ≡ accepted =
    sym (output) in
    let tree = accepted_tree in
    let list = accepted_output in record {
      result_value = rw (tree, list, counted);
      out_after = rw (tree, list) (c.write_members.ensures
          ∙ ap (members_to _) (accepted_marked _ tree).sized);
    }

pub returns-in_err-check_output : goal.returns-in_err-check_output
unfolding members_answer members_list
returns-in_err-check_output c =
    let ok = sym c.in_ok-check_tree.ensures in
    let counted = c.count_members-n.ensures ∙ accepted_count _ ok in
    let exit = c.from_residual-in_err-check_output in
    let passed_on = err_from_is_err_and exit.result exit.ensures.1 in
    record {
      result_value = rw (passed_on.1, passed_on.2, ok, ← counted, ← c.in_err-check_output.ensures) refl;
      out_after = rw (ok, ← counted, ← c.in_err-check_output.ensures) refl;
    }
