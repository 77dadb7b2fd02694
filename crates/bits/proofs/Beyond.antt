-- The search for a bit beyond the members: how it goes on and ends, and what an accepted group has.
use Prim.Native.Nat.{ℕ, zero, suc, ◌+◌, ◌-◌, ◌<◌, ◌≤◌}
use mathlib.Core.Path.{◌≡◌, refl}
use mathlib.Core.Bool.{Bool, true, false}
use mathlib.Core.List.{List}
use native.Mathlib.Nat.{add-zero, sub-zero, zero-sub, suc-sub-suc}
use native.Mathlib.Numerals.{add-one}
use native.Mathlib.Omega.{arith}
use Rattle.basics.specs.Bit.{bit}
use Rattle.basics.specs.Sum.{size}
use Rattle.answer_forms.specs.Answer.{Check, accepted, refused, fault, ◌then◌}
use Rattle.answers.specs.Checks.{bits_check, group_check}
use Rattle.basics.proofs.Sizes.{size_more}

-- where the r bits from bit j on are clear, the search goes on behind them
pub bits_skip : (words : List ℕ) (r f j : ℕ) → ((k : ℕ) → j ≤ k → k < j + r → bit words k ≡ false)
    → bits_check words f j ≡ bits_check words (f - r) (j + r)
unfolding bits_check
bits_skip words zero f j h = rw (sub-zero, add-zero)
bits_skip words (suc r) zero j h = rw zero-sub
bits_skip words (suc r) (suc f) j h =
    let on : j + suc r ≡ (j + 1) + r = omega arith in
    rw (suc-sub-suc, on, h j (omega arith) (omega arith))
    (bits_skip words r f (j + 1) (λ k l m. h k (omega arith) (omega arith)))

-- where bit j is set, the search ends there
pub bits_found : (words : List ℕ) (f j : ℕ) → 0 < f → bit words j ≡ true → bits_check words f j ≡ refused 5 j
unfolding bits_check
bits_found words zero j h e = absurd (omega arith)
bits_found words (suc f) j h e = rw e

-- an accepted bit is clear, and what follows is accepted
accepted_first : (b : Bool) (j : ℕ) (next : Check) → (fault b 5 j then next) ≡ accepted
    → (b ≡ false) × (next ≡ accepted)
accepted_first true j next e = let z : ◌≡◌ {A = ℕ} 0 1 = cc in absurd (omega arith)
accepted_first false j next e = (refl, e)

-- f accepted bits from bit j on add nothing to the size
size_beyond : (words : List ℕ) (f j : ℕ) → bits_check words f j ≡ accepted
    → size (j + f) (bit words) ≡ size j (bit words)
unfolding bits_check
size_beyond words zero j e = rw add-zero
size_beyond words (suc f) j e =
    let first = accepted_first (bit words j) j (bits_check words f (j + 1)) e in
    let on : j + suc f ≡ (j + 1) + f = omega arith in
    rw (on, size_beyond words f (j + 1) first.1, add-one, size_more, first.0, add-zero)

-- the size of an accepted group, by its members alone
pub size_within : (n : ℕ) (words : List ℕ) → n ≤ 1024 → group_check n words ≡ accepted
    → size 1024 (bit words) ≡ size n (bit words)
size_within n words h e = let whole : 1024 ≡ n + (1024 - n) = omega arith in rw whole (size_beyond words (1024 - n) n e)
