-- The loops over the keys: how many are below a bound, and the keys raised so far.
use Prim.Native.Nat.{ℕ, ◌+◌}
use mathlib.Core.Path.{◌≡◌, refl, ◌∙◌}
use mathlib.Core.Bool.{Bool, true, false, cond}
use mathlib.Core.List.{List, [], ◌∷◌}
use native.Mathlib.Omega.{arith}
use lib.ListN.{length, get_or}
use lib.Dec.{ltb}
use Rattle.std.specs.List.{count_by}
use Rattle.std.proofs.lemmas.List.Recursion.{is_count_by}
use Rattle.basics.specs.Sum.{pick}
use Rattle.basics.proofs.Sizes.{size_first, size_none}
use Rattle.basics.proofs.Filling.{Rewriting}
use Rattle.turns.specs.Keys.{lower}

one_more : (b : Bool) (n : ℕ) → pick b 1 + n ≡ cond b (1 + n) n
one_more true n = refl
one_more false n = omega arith

pub lower_is : (keys : List ℕ) (bound : ℕ) → lower keys bound ≡ count_by (λ key. ltb key bound) keys
lower_is keys bound =
    is_count_by (λ ks. lower ks bound) (λ key. ltb key bound)
    (size_none 0 (λ i. ltb (get_or [] i 0) bound) (λ i h. absurd (omega arith)))
    (λ k ks.
    size_first (length ks) (λ i. ltb (get_or (k ∷ ks) i 0) bound) ∙ one_more (ltb k bound) (lower ks bound))
    keys

-- the keys at the places before i are raised
abbrev pub Raising : ℕ → ℕ → List ℕ → List ℕ → ℕ → Type 0
Raising base bound before = Rewriting before (λ u. get_or before u 0 + pick (ltb (get_or before u 0) bound) base)
