-- A loop that copies a list into the front of another, entry by entry.
use Prim.Native.Nat.{ℕ, ◌+◌, ◌<◌, ◌≤◌}
use mathlib.Core.Path.{◌≡◌, refl, sym, ap, ◌∙◌}
use mathlib.Core.List.{List}
use native.Mathlib.Nat.{zero-add}
use native.Mathlib.Numerals.{add-one}
use native.Mathlib.Omega.{arith}
use lib.ListN.{length, get_or, set, length-set}
use lib.Seq.{paste, paste-zero, paste-suc}

-- the first i of n entries of s are copied into d, which is now `list`
pub record Copied {A : Type 0} (s d : List A) (n i : ℕ) (list : List A) : Type 0 where
  pub long : length list ≡ length d
  pub within : i ≤ n
  pub copied : list ≡ paste d 0 s i

module _ {A : Type 0} (s d : List A) (n : ℕ) where
  -- where the loop begins
  pub copied_none : Copied s d n 0 d
  copied_none = record {
    long = refl;
    within = omega arith;
    copied = paste-zero d 0 s;
  }

  -- a turn
  pub copied_more : {i : ℕ} {list : List A} (v z : A) → n ≤ length s → n ≤ length d → Copied s d n i list
      → i < n → v ≡ get_or s i z → Copied s d n (i + 1) (set list i v)
  copied_more {i} {list} v z hs hd c more e = record {
    long = length-set list i v ∙ c.long;
    within = omega arith;
    copied = ap (set list i) e
        ∙ ap (λ (l : List A). set l i (get_or s i z)) c.copied
        ∙ ap (λ (k : ℕ). set (paste d 0 s i) k (get_or s i z)) (sym (zero-add i))
        ∙ paste-suc d 0 s i z (omega arith) (omega arith)
        ∙ ap (paste d 0 s) (sym (add-one i));
  }

  -- where it ends
  pub copied_all : {i : ℕ} {list : List A} → Copied s d n i list → n ≤ i → list ≡ paste d 0 s n
  copied_all {i} c h =
      let all : i ≡ n = omega arith in
      c.copied ∙ ap (paste d 0 s) all
