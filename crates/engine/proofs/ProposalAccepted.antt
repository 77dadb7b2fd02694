-- What follows where nothing is found fault with in a tree and a proposal.
use Prim.Native.Nat.{ℕ, ◌≤◌}
use mathlib.Core.Path.{◌≡◌, refl, sym, subst}
use mathlib.Core.List.{List}
use native.Mathlib.Omega.{arith}
use lib.ListN.{length}
use lib.IntN.{ℤ, pos}
use Rattle.limits.specs.Limits.{most_arcs}
use Rattle.game.specs.Network.{member_count}
use Rattle.game.specs.Tree.{Tree, network}
use Rattle.answer_forms.specs.Answer.{accepted}
use Rattle.answer_forms.proofs.Composed.{first_accepted, second_accepted}
use Rattle.answers.specs.Checks.{tree_check, proposal_check, outside_share}
use Rattle.answers.specs.Audit.{audit_check}
use Rattle.answers.proofs.InRange.{list_accepted}
use Rattle.answers.proofs.Limits.{tree_limits}

module _ (t : Tree) (shares : List ℤ) (ok : audit_check t shares ≡ accepted) where
  pub tree_taken : tree_check t ≡ accepted
  tree_taken = first_accepted (tree_check t) (proposal_check (member_count (network t)) shares) ok

  pub shares_taken : proposal_check (member_count (network t)) shares ≡ accepted
  shares_taken = second_accepted (tree_check t) (proposal_check (member_count (network t)) shares) ok

  pub one_a_member : length shares ≡ member_count (network t)
  one_a_member = (list_accepted outside_share (pos 0) (member_count (network t)) shares refl shares_taken).same

  -- what the sums of the parts ask for
  pub shares_lent : (proposal_check (length shares) shares ≡ accepted) × (length shares ≤ most_arcs)
  shares_lent = (
    subst (λ (k : ℕ). proposal_check k shares ≡ accepted) (sym one_a_member) shares_taken,
    omega (arith, one_a_member, (tree_limits t tree_taken).members),
  )
