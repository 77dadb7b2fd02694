-- What the two passes of the search find.
use Rattle.std.specs.Prelude.{ℕ, ◌≤◌, ◌≡◌, Bool, true, false, List, get_or, ℤ}
use Rattle.game.specs.Network.{Network, number, member_count}
use Rattle.basics.specs.Bit.{bit}
use Rattle.game.specs.Group.{words_of}
use Rattle.basics.proofs.Sums.{In}
use Rattle.game.proofs.Certificate.{children}
use Rattle.game.proofs.Excess.{Excess, Active}
use Rattle.game.proofs.Overpayment.{over_at}

-- the excess of each arc of the positive shares, and that of all arcs from the source
pub record Exceeding (n : Network) (shares : List ℤ) (total : ℕ) (excesses : List ℕ) : Type 0 where
  pub excess : Excess n (over_at n shares) (λ v. get_or excesses v 0)
  pub all : total ≡ children n (λ v. get_or excesses v 0) 0

-- the words of the members that are active by the excesses
pub record Chosen (n : Network) (excesses words : List ℕ) : Type 0 where
  pub act : ℕ → Bool
  pub active : Active n (λ v. get_or excesses v 0) act
  pub bits : (v : ℕ) → In n.arcs v → n.member v ≡ true → bit words (number n v) ≡ act v
  pub none_beyond : (j : ℕ) → member_count n ≤ j → bit words j ≡ false
  pub encoded : words ≡ words_of (bit words)
