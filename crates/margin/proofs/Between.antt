-- The widest margin of an arc between two margins, of which the lower is possible and the upper is not.
use Prim.Native.Nat.{ℕ, suc, ◌+◌, ◌-◌, ◌≤◌, ◌<◌}
use mathlib.Core.Path.{◌≡◌, refl, ap}
use mathlib.Core.Bool.{Bool, true, false, cond}
use native.Mathlib.Omega.{arith}
use borrow.Author.Tests.{leb-true, leb-false}
use lib.Dec.{leb}
use Rattle.basics.proofs.Sums.{In}
use Rattle.game.specs.Network.{Network, need}
use Rattle.game.specs.ByArc.{user_count}
use Rattle.game.specs.Margin.{raised, widest}
use Rattle.game.proofs.Below.{Rooted}
use Rattle.game.proofs.Raised.{raised_none, widest_is}

module _ (n : Network) (arc : ℕ) where
  pub record Between (wanted low high : ℕ) : Type 0 where
    pub is_need : wanted ≡ need n arc
    pub apart : low < high
    pub within : high ≤ wanted + 1
    pub possible : raised n low arc ≤ wanted
    pub impossible : high ≤ wanted → raised n high arc ≤ wanted → ⊥

  module _ {wanted low high : ℕ} (b : Between wanted low high) {middle value : ℕ} (above : low < middle)
      (under : middle < high) (tried : value ≡ raised n middle arc) where
    -- the one in the middle takes the place of the lower where it is possible, else of the upper
    pub between_up : value ≤ wanted → Between wanted middle high
    between_up h =
        record {
          is_need = b.is_need;
          apart = under;
          within = b.within;
          possible = omega arith;
          impossible = b.impossible;
        }

    pub between_down : wanted < value → Between wanted low middle
    between_down h =
        record {
          is_need = b.is_need;
          apart = above;
          within = omega arith;
          possible = b.possible;
          impossible = λ l p. omega arith;
        }

    next : (P : ℕ → ℕ → Type 0) → (t : Bool) → (t ≡ true → P middle high) → (t ≡ false → P low middle)
        → P (cond t middle low) (cond t high middle)
    next P true up down = up refl
    next P false up down = down refl

    -- both cases at once, and how far the two are apart then
    module _ {low' high' : ℕ} (el : low' ≡ cond (leb value wanted) middle low)
        (eh : high' ≡ cond (leb value wanted) high middle) where
      pub between_on : Between wanted low' high'
      between_on =
          rw (el, eh)
          (next (Between wanted) (leb value wanted) (λ t. between_up (leb-true value wanted t))
          (λ t. between_down (leb-false value wanted t)))

      pub between_less : high' - low' < high - low
      between_less =
          rw (el, eh)
          (next (λ l h. h - l < high - low) (leb value wanted) (λ t. omega arith) (λ t. omega arith))

  module _ (rooted : Rooted n) (i : In n.arcs arc) where
    pub between_start : {wanted : ℕ} → wanted ≡ need n arc → Between wanted 0 (wanted + 1)
    between_start e =
        record {
          is_need = e;
          apart = omega arith;
          within = omega arith;
          possible = omega (arith, raised_none n rooted arc i);
          impossible = λ h p. omega arith;
        }

    pub between_end : 0 < user_count n arc → {wanted low high : ℕ} → Between wanted low high → high ≤ low + 1
        → low ≡ widest n arc
    between_end some {wanted} {low} {high} b near =
        let next : high ≡ suc low = omega arith in
        widest_is n rooted arc i some low (omega arith) (omega arith)
        (λ h p. b.impossible (omega arith) (omega (arith, ap (λ (m : ℕ). raised n m arc) next)))
