use Prim.Native.Nat.{ℕ, ◌+◌, ◌≤◌}
use mathlib.Core.Path.{sym, ◌≡◌, ap, ◌∙◌}
use mathlib.Core.List.{List}
use lib.IntN.{ℤ, sub_ℕ}
use native.Mathlib.Omega.{arith}
use mir.Syntax.{w64}
use mir.Facts.{to_z-of_z}
use Rattle.game.specs.Network.{whole_cost}
use Rattle.game.specs.Tree.{Tree, tree_of, network}
use Rattle.answer_forms.specs.Answer.{accepted, value}
use Rattle.answers.specs.Checks.{tree_check}
use Rattle.answers.specs.Audit.{audit_check, total_answer}
use Rattle.answers.proofs.Accepted.{tree_accepted}
use Rattle.answers.proofs.Limits.{whole_bound}
use Rattle.tree.proofs.TreeAccepted.{accepted_sound, counted_lent}
use Rattle.tree.proofs.LocalCosts.{counted_whole}
use Rattle.engine.proofs.ProposalAccepted.{tree_taken, one_a_member, shares_lent}
use Rattle.engine.proofs.Difference.{difference_is}
use Rattle.engine.proofs.total.check_total.Goals as goal

pub slice_bounds-counted-end : goal.slice_bounds-counted-end
slice_bounds-counted-end c =
    let tree : Tree = let s = c.args in tree_of s.parents.now s.costs.now s.marks.now in
    let shares : List ℤ = c.args.proposal.now in
    let ok : audit_check (tree) (shares) ≡ accepted = sym c.in_ok-check_proposed.ensures in
    let tree_ok : tree_check (tree) ≡ accepted = tree_taken (tree) (shares) (ok) in
    (accepted_sound (tree) (tree_ok)).few

pub write_counted-requires : goal.write_counted-requires
write_counted-requires c =
    let tree : Tree = let s = c.args in tree_of s.parents.now s.costs.now s.marks.now in
    let shares : List ℤ = c.args.proposal.now in
    let ok : audit_check (tree) (shares) ≡ accepted = sym c.in_ok-check_proposed.ensures in
    let tree_ok : tree_check (tree) ≡ accepted = tree_taken (tree) (shares) (ok) in
    let it = counted_lent _ (tree_ok) in record { sound = it.0; costed = it.1.0; marked = it.1.1.0; out_len = it.1.1.1 }

pub parts_of-parts-requires : goal.parts_of-parts-requires
parts_of-parts-requires c =
    let tree : Tree = let s = c.args in tree_of s.parents.now s.costs.now s.marks.now in
    let shares : List ℤ = c.args.proposal.now in
    let ok : audit_check (tree) (shares) ≡ accepted = sym c.in_ok-check_proposed.ensures in
    let it = shares_lent (tree) (shares) (ok) in record { proposal_value = it.0; proposal_len_bound = it.1 }

pub overflow_add-owed : goal.overflow_add-owed
overflow_add-owed c =
    let tree : Tree = let s = c.args in tree_of s.parents.now s.costs.now s.marks.now in
    let whole : c.whole_cost.result ≡ whole_cost (network (tree)) =
    c.whole_cost.ensures ∙ counted_whole (tree) c.write_counted.ensures _ in
    let shares : List ℤ = c.args.proposal.now in
    let ok : audit_check (tree) (shares) ≡ accepted = sym c.in_ok-check_proposed.ensures in
    let tree_ok : tree_check (tree) ≡ accepted = tree_taken (tree) (shares) (ok) in
    let owed_bound : c.parts_of-parts.result.minus + c.whole_cost.result ≤ 3000000000000000 = omega (
      arith,
      whole,
      whole_bound (tree) (tree_accepted (tree) (tree_ok)),
      c.parts_of-parts.ensures.minus_most,
    ) in
    omega (arith, owed_bound)

pub less-requires : goal.less-requires
less-requires c =
    let tree : Tree = let s = c.args in tree_of s.parents.now s.costs.now s.marks.now in
    let whole : c.whole_cost.result ≡ whole_cost (network (tree)) =
    c.whole_cost.ensures ∙ counted_whole (tree) c.write_counted.ensures _ in
    let shares : List ℤ = c.args.proposal.now in
    let ok : audit_check (tree) (shares) ≡ accepted = sym c.in_ok-check_proposed.ensures in
    let tree_ok : tree_check (tree) ≡ accepted = tree_taken (tree) (shares) (ok) in
    let owed_bound : c.parts_of-parts.result.minus + c.whole_cost.result ≤ 3000000000000000 = omega (
      arith,
      whole,
      whole_bound (tree) (tree_accepted (tree) (tree_ok)),
      c.parts_of-parts.ensures.minus_most,
    ) in
    let most = c.parts_of-parts.ensures.plus_most in
    let owed = owed_bound in
    record { a_bound = omega (arith, most, owed); b_bound = omega (arith, most, owed) }

pub returns : goal.returns
unfolding total_answer
returns c =
    let tree : Tree = let s = c.args in tree_of s.parents.now s.costs.now s.marks.now in
    let shares : List ℤ = c.args.proposal.now in
    let whole : c.whole_cost.result ≡ whole_cost (network (tree)) =
    c.whole_cost.ensures ∙ counted_whole (tree) c.write_counted.ensures _ in
    let ok : audit_check (tree) (shares) ≡ accepted = sym c.in_ok-check_proposed.ensures in
    let t = tree in
    let proposed = shares in
    let parts = c.parts_of-parts in
    let sums = parts.ensures in
    let difference = to_z-of_z {w = w64} (record { sfits = c.less.type_inv })
    ∙ c.less.ensures
    ∙ ap (λ (w : ℕ). sub_ℕ parts.result.plus (parts.result.minus + w)) (whole)
    ∙ difference_is (network t) proposed (one_a_member t proposed (ok)) sums.plus_is sums.minus_is in
    rw (ok) (ap value difference)
