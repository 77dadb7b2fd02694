-- The front of an array of zeros, lent as a list.
use Prim.Native.Nat.{ℕ, ◌-◌, ◌≤◌}
use mathlib.Core.Path.{◌≡◌, sym, ◌∙◌}
use native.Mathlib.Omega.{arith}
use lib.ListN.{take, replicate, length-replicate, get_or-replicate}
use lib.Seq.{get_or-take, ext_get_or}
use Rattle.basics.proofs.Lists.{zeros_length}

pub zeros_part : (size m : ℕ) → m ≤ size → take {A = ℕ} (m - 0) (replicate size 0) ≡ replicate m 0
zeros_part size m h =
    let long = zeros_length size m h in
    ext_get_or 0 (take (m - 0) (replicate size 0)) (replicate m 0) (long ∙ sym (length-replicate m 0))
    (λ i l. get_or-take (m - 0) (replicate size 0) i 0 (omega (arith, long))
    ∙ get_or-replicate size i 0 0 (omega (arith, long))
    ∙ sym (get_or-replicate m i 0 0 (omega (arith, long))))
