-- Sums over a list, as sums over its arcs.
use Prim.Native.Nat.{ℕ, zero, suc, ◌≤◌}
use mathlib.Core.Path.{◌≡◌, refl}
use mathlib.Core.List.{List}
use native.Mathlib.Numerals.{add-one}
use native.Mathlib.Omega.{arith}
use lib.ListN.{length, take}
use lib.Seq.{take-length}
use Rattle.std.specs.List.{sum_by}
use Rattle.std.proofs.lemmas.List.Sums.{sum_by_more}
use Rattle.basics.specs.Sum.{sum}
use Rattle.game.specs.Tree.{of_arc}

sum_by_front : (f : ℕ → ℕ) (xs : List ℕ) (n : ℕ) → n ≤ length xs
    → sum_by f (take n xs) ≡ sum n (λ k. f (of_arc xs k))
sum_by_front f xs zero h = refl
sum_by_front f xs (suc n) h = omega (arith, rw add-one at (sum_by_more f xs n 0 h), sum_by_front f xs n (omega arith))

pub sum_by_arcs : (f : ℕ → ℕ) (xs : List ℕ) → sum_by f xs ≡ sum (length xs) (λ k. f (of_arc xs k))
sum_by_arcs f xs = rw take-length at (sum_by_front f xs (length xs) (omega arith))
