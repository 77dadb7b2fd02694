-- A class's part of a list as code takes it, and the shares written up to it.
use Prim.Native.Nat.{ℕ, suc, ◌+◌, ◌-◌, ◌*◌, ◌≤◌}
use mathlib.Core.Path.{◌≡◌, ap, ap₂, ◌∙◌}
use mathlib.Core.List.{List, ◌++◌}
use native.Mathlib.Nat.{suc-mul}
use native.Mathlib.Numerals.{add-one}
use native.Mathlib.Omega.{arith}
use lib.ListN.{length, take, drop}
use lib.Seq.{length-take-le, take_at, take-append-add}
use Rattle.answers.specs.Classes.{part, joined}

module _ (size c : ℕ) where
  pub as_taken : (l : List ℕ) → take (c * size + size - c * size) (drop (c * size) l) ≡ part size c l
  as_taken l =
      let e : c * size + size - c * size ≡ size = omega arith in
      ap (λ (k : ℕ). take k (drop (c * size) l)) e

  -- the next class's list behind those of the first c classes
  pub one_more : (f : ℕ → List ℕ) (out new rest : List ℕ) → c * size ≤ length out
      → take (c * size) out ≡ joined c f → new ≡ f c → length new ≡ size
      → take ((c + 1) * size) (take (c * size) out ++ (new ++ rest)) ≡ joined (c + 1) f
  unfolding joined
  one_more f out new rest within so_far is long =
      rw (add-one c)
      (ap (λ (k : ℕ). take k (front ++ (new ++ rest))) places
      ∙ take-append-add front (new ++ rest) size
      ∙ ap₂ (λ (a b : List ℕ). a ++ b) so_far (take_at new rest size long ∙ is))
    where
      front : List ℕ
      front = take (c * size) out

      places : suc c * size ≡ length front + size
      places = omega (arith, suc-mul c size, length-take-le (c * size) out within)
