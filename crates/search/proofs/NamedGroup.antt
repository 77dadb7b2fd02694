-- The two passes find the group that the search names, and what it overpays.
use Prim.Native.Nat.{ℕ, ◌<◌}
use mathlib.Core.Path.{◌≡◌, sym, ap, ◌∙◌}
use mathlib.Core.List.{List, []}
use native.Mathlib.Decide.{dec_lt}
use native.Mathlib.Omega.{arith}
use lib.ListN.{get_or}
use lib.IntN.{ℤ, pos}
use Rattle.game.specs.Network.{Network, member_count}
use Rattle.game.specs.Tree.{network_of}
use Rattle.basics.specs.Bit.{bit}
use Rattle.game.specs.Group.{words_of}
use Rattle.game.specs.Proposal.{overpayment}
use Rattle.game.specs.Search.{is_in, named}
use Rattle.game.proofs.Encoding.{words_same}
use Rattle.game.proofs.Overpayment.{overpayment_same}
use Rattle.game.proofs.Search.{named_ends}
use Rattle.game.proofs.ActiveGroup.{active_overpays, active_named}
use Rattle.tree.specs.Passes.{Sound, Marked}
use Rattle.tree.proofs.Vertices.{marked_end}
use Rattle.search.specs.Passes.{Exceeding, Chosen}

module _ (ps cs ms : List ℕ) (shares : List ℤ) (sound : Sound ps) (marks : Marked ps ms) {total : ℕ}
    {excesses words : List ℕ} (e : Exceeding (network_of ps cs ms) shares total excesses)
    (c : Chosen (network_of ps [] ms) excesses words) where
  abbrev n : Network
  n = network_of ps cs ms

  same : (j : ℕ) → j < member_count n → bit words j ≡ is_in (named n shares) j
  same =
      active_named n sound.rising (marked_end ps ms marks cs) shares (λ v. get_or excesses v 0) c.act e.excess
      c.active (bit words) c.bits

  pub found_amount : overpayment n shares (is_in (named n shares)) ≡ pos total
  found_amount =
      sym (overpayment_same n shares (bit words) (is_in (named n shares)) same)
      ∙ active_overpays n sound.rising (marked_end ps ms marks cs) shares (λ v. get_or excesses v 0) c.act
      e.excess c.active (bit words) c.bits
      ∙ ap pos (sym e.all)

  pub found_group : words ≡ words_of (is_in (named n shares))
  found_group =
      c.encoded
      ∙ words_same (bit words) (is_in (named n shares))
      (λ j h.
      elim (dec_lt j (member_count n)) [
        | yes l ↦ same j l
        | no l ↦ c.none_beyond j (omega arith) ∙ sym (named_ends n shares j (omega arith))
      ])
