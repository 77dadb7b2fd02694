use Prim.Native.Nat.{ℕ}
use mathlib.Core.Path.{sym, ◌≡◌, refl}
use mathlib.Core.List.{List}
use lib.IntN.{ℤ}
use Rattle.game.specs.Tree.{Tree, tree_of, network}
use Rattle.game.specs.Group.{words_of}
use Rattle.game.specs.Search.{is_in, named}
use Rattle.answer_forms.specs.Answer.{Answer, accepted, value}
use Rattle.answers.specs.Checks.{tree_check}
use Rattle.answers.specs.Audit.{Verdict, audit_check, search_verdict, search_answer, search_words, words_beside}
use Rattle.tree.proofs.LocalCosts.{counted_part}
use Rattle.tree.proofs.TreeAccepted.{accepted_sound, counted_lent, accepted_lists}
use Rattle.engine.proofs.ProposalAccepted.{tree_taken, shares_taken}
use Rattle.engine.proofs.group_search.find_group.Goals as goal

-- from what is found in the accepted tree
answered : (t : Tree) (proposed : List ℤ) {a : Answer Verdict} {group : List ℕ}
    → audit_check t proposed ≡ accepted
    → a ≡ value (search_verdict (network t) proposed)
    → group ≡ words_beside a (words_of (is_in (named (network t) proposed)))
    → (a ≡ search_answer t proposed) × (group ≡ search_words t proposed)
unfolding search_answer search_words
answered t proposed taken is beside = rw (taken, ← is) (refl, beside)

pub slice_bounds-counted-end : goal.slice_bounds-counted-end
slice_bounds-counted-end c =
    let tree : Tree = let s = c.args in tree_of s.parents.now s.costs.now s.marks.now in
    let shares : List ℤ = c.args.proposal.now in
    let ok : audit_check (tree) (shares) ≡ accepted = sym c.in-Ok.ensures in
    let tree_ok : tree_check (tree) ≡ accepted = tree_taken (tree) (shares) (ok) in
    (accepted_sound (tree) (tree_ok)).few

pub write_counted-requires : goal.write_counted-requires
write_counted-requires c =
    let tree : Tree = let s = c.args in tree_of s.parents.now s.costs.now s.marks.now in
    let shares : List ℤ = c.args.proposal.now in
    let ok : audit_check (tree) (shares) ≡ accepted = sym c.in-Ok.ensures in
    let tree_ok : tree_check (tree) ≡ accepted = tree_taken (tree) (shares) (ok) in
    let it = counted_lent _ (tree_ok) in record { sound = it.0; costed = it.1.0; marked = it.1.1.0; out_len = it.1.1.1 }

pub search_in_tree-requires : goal.search_in_tree-requires
search_in_tree-requires c =
    let tree : Tree = let s = c.args in tree_of s.parents.now s.costs.now s.marks.now in
    let shares : List ℤ = c.args.proposal.now in
    let ok : audit_check (tree) (shares) ≡ accepted = sym c.in-Ok.ensures in
    let tree_ok : tree_check (tree) ≡ accepted = tree_taken (tree) (shares) (ok) in
    let lists = accepted_lists _ (tree_ok) c.write_counted.ensures _ in
    record {
      sound = lists.0;
      costed = lists.1.0;
      marked = lists.1.1;
      proposal_value = shares_taken (tree) (shares) (ok);
    }

pub returns-in-Ok : goal.returns-in-Ok
returns-in-Ok c =
    let tree : Tree = let s = c.args in tree_of s.parents.now s.costs.now s.marks.now in
    let shares : List ℤ = c.args.proposal.now in
    let ok : audit_check (tree) (shares) ≡ accepted = sym c.in-Ok.ensures in
    let part = counted_part (tree) c.write_counted.ensures in
    let inner = c.search_in_tree.ensures in
    let it = answered (tree) (shares) (ok) (rw part at inner.answer_value) (rw part at inner.group_value) in
    record { answer_value = it.0; group_value = it.1 }
