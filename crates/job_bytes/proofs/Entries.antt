-- Loops that write a list entry by entry over the front of another list; and columns that stand within the bytes.
use Prim.Native.Nat.{ℕ, suc, ◌+◌, ◌*◌, ◌<◌, ◌≤◌}
use mathlib.Core.Path.{◌≡◌, sym}
use mathlib.Core.List.{List, [], ◌∷◌, ◌++◌}
use native.Mathlib.Nat.{mul-le-mul_left}
use native.Mathlib.Numerals.{add-one}
use native.Mathlib.Omega.{arith}
use lib.ListN.{length, get_or, set, drop}
use lib.Seq.{drop-cons, set_at, append_snoc}
use Rattle.basics.specs.Sum.{entries}
use Rattle.basics.proofs.Lists.{entries_length}
use Rattle.job_bytes.specs.Inner.{Within}

-- a column stands within the bytes where its rows do: its numbers stand some bytes behind the start of their rows
pub column_within : (bytes : List ℕ) (width offset behind stride rows : ℕ) → behind + width ≤ stride
    → offset + stride * rows ≤ length bytes → Within bytes width (offset + behind) stride rows
column_within bytes width offset behind stride rows narrow h = λ i l. omega (arith, mul-le-mul_left stride l)

module _ {A : Type 0} where
  -- one entry more
  pub front_more : (front : List A) (i : ℕ) (before : List A) (v : A) → length front ≡ i → i < length before
      → set (front ++ drop i before) i v ≡ front ++ (v ∷ []) ++ drop (i + 1) before
  front_more front i before v long h =
      rw (add-one i, drop-cons before i v h, set_at front (get_or before i v) (drop (suc i) before) v i long)
      (sym (append_snoc front v (drop (suc i) before)))

  pub entries_more : (i : ℕ) (f : ℕ → A) (before : List A) (v : A) → i < length before → v ≡ f i
      → set (entries i f ++ drop i before) i v ≡ entries (i + 1) f ++ drop (i + 1) before
  unfolding entries
  entries_more i f before v h e =
      rw (front_more (entries i f) i before v (entries_length f i) h, e)
      (rw add-one)
