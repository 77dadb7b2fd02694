-- Loops that write a list: from its first place on, from its last place down, and over what it held.
use Prim.Native.Nat.{ℕ, suc, ◌+◌, ◌≤◌, ◌<◌}
use mathlib.Core.Path.{◌≡◌, refl, sym, ◌∙◌}
use mathlib.Core.List.{List}
use native.Mathlib.Decide.{ℕ_discrete}
use native.Mathlib.Omega.{arith}
use lib.ListN.{length, get_or, set, length-set}
use lib.Seq.{get_or-set_same, get_or-set_other, ext_get_or}
use Rattle.basics.specs.Sum.{list}
use Rattle.basics.proofs.Lists.{list_is}

module _ (n : ℕ) (f : ℕ → ℕ) where
  -- of n places those below i hold what f says
  pub record Filling (out : List ℕ) (i : ℕ) : Type 0 where
    pub kept : length out ≡ n
    pub filled : (u : ℕ) → u < i → get_or out u 0 ≡ f u

  pub filling_start : {out : List ℕ} → length out ≡ n → Filling out 0
  filling_start l = record { kept = l; filled = λ u h. absurd (omega arith) }

  module _ {out : List ℕ} {i : ℕ} (s : Filling out i) where
    pub filling_on : i < n → (w : ℕ) → w ≡ f i → Filling (set out i w) (i + 1)
    filling_on h w e =
        record {
          kept = length-set out i w ∙ s.kept;
          filled =
              λ u l. elim
              (ℕ_discrete u i) [ yes d ↦ here u d | no d ↦ get_or-set_other out i u w 0 d ∙ s.filled u (omega arith) ];
        }
      where
        here : (u : ℕ) → u ≡ i → get_or (set out i w) u 0 ≡ f u
        here u d = rw d (get_or-set_same out i w 0 (omega (arith, s.kept)) ∙ e)

    pub filling_list : n ≤ i → (g : ℕ → ℕ) → ((u : ℕ) → f u ≡ g (suc u)) → out ≡ list n g
    filling_list h g is = list_is g 0 n out s.kept (λ u l. s.filled u (omega arith) ∙ is u)

    pub filling_end : n ≤ i → (wanted : List ℕ) → length wanted ≡ n → ((u : ℕ) → u < n → get_or wanted u 0 ≡ f u)
        → out ≡ wanted
    filling_end h wanted e says =
        ext_get_or 0 out wanted (s.kept ∙ sym e)
        (λ u l. s.filled u (omega (arith, s.kept)) ∙ sym (says u (omega (arith, s.kept))))

-- a loop that writes a list from its last place down
module _ (n : ℕ) (f : ℕ → ℕ) where
  -- of n places those from k on hold what f says
  pub record FilledFrom (out : List ℕ) (k : ℕ) : Type 0 where
    pub kept : length out ≡ n
    pub filled : (u : ℕ) → k ≤ u → u < n → get_or out u 0 ≡ f u

  pub from_end : {out : List ℕ} {k : ℕ} → k ≡ n → length out ≡ n → FilledFrom out k
  from_end e l = record { kept = l; filled = λ u lo hi. absurd (omega arith) }

  pub from_next : {out : List ℕ} {k j : ℕ} → FilledFrom out k → k ≤ n → k ≡ suc j → (w : ℕ) → w ≡ f j
      → FilledFrom (set out j w) j
  from_next {out} {k} {j} s within next w e =
      record {
        kept = length-set out j w ∙ s.kept;
        filled =
            λ u lo hi. elim
            (ℕ_discrete u j) [ yes d ↦ here u d | no d ↦ get_or-set_other out j u w 0 d ∙ s.filled u (omega arith) hi ];
      }
    where
      here : (u : ℕ) → u ≡ j → get_or (set out j w) u 0 ≡ f u
      here u d = rw d (get_or-set_same out j w 0 (omega (arith, s.kept)) ∙ e)

  pub from_start : {out : List ℕ} {k : ℕ} → k ≡ 0 → FilledFrom out k → (g : ℕ → ℕ) → ((u : ℕ) → f u ≡ g (suc u))
      → out ≡ list n g
  from_start {out} e s g is = list_is g 0 n out s.kept (λ u l. s.filled u (omega arith) l ∙ is u)

-- a loop that writes each entry of a list anew, from its first place on
module _ (before : List ℕ) (f : ℕ → ℕ) where
  -- the places below i hold what f says, the others what they held
  pub record Rewriting (out : List ℕ) (i : ℕ) : Type 0 where
    pub kept : length out ≡ length before
    pub done : (u : ℕ) → u < i → get_or out u 0 ≡ f u
    pub rest : (u : ℕ) → i ≤ u → get_or out u 0 ≡ get_or before u 0

  pub rewriting_start : Rewriting before 0
  rewriting_start = record { kept = refl; done = λ u h. absurd (omega arith); rest = λ u h. refl }

  pub rewriting_on : {out : List ℕ} {i : ℕ} → Rewriting out i → i < length before → (w : ℕ) → w ≡ f i
      → Rewriting (set out i w) (i + 1)
  rewriting_on {out} {i} s h w e =
      record {
        kept = filled.kept;
        done = filled.filled;
        rest = λ u l. get_or-set_other out i u w 0 (λ d. absurd (omega arith)) ∙ s.rest u (omega arith);
      }
    where
      so_far : Filling (length before) f out i
      so_far = record { kept = s.kept; filled = s.done }

      filled : Filling (length before) f (set out i w) (i + 1)
      filled = filling_on (length before) f so_far h w e
