-- Bytes written one piece after another. `Put before at s after end`: s stands from `at` to `end`, all else as before.
--
--   put_then, put_none            two pieces are one; nothing
--   copy_start, copy_on, copy_end the loop that copies a piece
use Prim.Native.Nat.{ℕ, suc, ◌+◌, ◌<◌, ◌≤◌}
use native.Mathlib.Nat.{add-zero}
use native.Mathlib.Numerals.{add-one}
use mathlib.Core.Path.{◌≡◌, refl, sym, ap, ◌∙◌}
use mathlib.Core.List.{List, [], ◌∷◌, ◌++◌}
use native.Mathlib.Omega.{arith}
use lib.ListN.{length, take, drop, get_or, set, length-append, length-set}
use lib.Seq.{sets, sets-eq, paste, paste-zero, paste-suc, take-length}
use Rattle.buffer.specs.Put.{Put}

sets_append : (s t l : List ℕ) (i : ℕ) → sets (sets l i s) (i + length s) t ≡ sets l i (s ++ t)
sets_append [] t l i = rw add-zero
sets_append (x ∷ s) t l i =
    let e : i + suc (length s) ≡ suc i + length s = omega arith in
    rw e (sets_append s t (set l i x) (suc i))

pub put_then : {a b c s t : List ℕ} {at e f : ℕ} → Put a at s b e → Put b e t c f → Put a at (s ++ t) c f
put_then {a} {b} {c} {s} {t} {at} {e} {f} p q =
    record {
      ends = end;
      fits = omega (arith, q.fits, p.same_length);
      same_length = q.same_length ∙ p.same_length;
      written = all;
    }
  where
    end : f ≡ at + length (s ++ t)
    end = omega (arith, length-append s t, p.ends, q.ends)

    first : b ≡ sets a at s
    first =
        p.written
        ∙ ap (λ (k : ℕ). take at a ++ s ++ drop k a) p.ends
        ∙ sym (sets-eq s a at (omega (arith, p.ends, p.fits)))

    second : c ≡ sets b (at + length s) t
    second =
        q.written
        ∙ ap (λ (k : ℕ). take e b ++ t ++ drop k b) q.ends
        ∙ sym (sets-eq t b e (omega (arith, q.ends, q.fits)))
        ∙ ap (λ (k : ℕ). sets b k t) p.ends

    all : c ≡ take at a ++ (s ++ t) ++ drop f a
    all =
        second
        ∙ ap (λ (l : List ℕ). sets l (at + length s) t) first
        ∙ sets_append s t a at
        ∙ sets-eq (s ++ t) a at (omega (arith, end, q.fits, p.same_length))
        ∙ ap (λ (k : ℕ). take at a ++ (s ++ t) ++ drop k a) (sym end)

-- nothing written
pub put_none : (a : List ℕ) (at : ℕ) → at ≤ length a → Put a at [] a at
put_none a at h =
    record {
      ends = sym (add-zero at);
      fits = h;
      same_length = refl;
      written = paste-zero a at [] ∙ ap (λ (k : ℕ). take at a ++ [] ++ drop k a) (add-zero at);
    }

-- the first i bytes of a piece are copied
pub record Copying (before : List ℕ) (at : ℕ) (piece : List ℕ) (i : ℕ) (list : List ℕ) : Type 0 where
  pub within : i ≤ length piece
  pub long : length list ≡ length before
  pub is : list ≡ paste before at piece i

module _ (before : List ℕ) (at : ℕ) (piece : List ℕ) (room : at + length piece ≤ length before) where
  pub copy_start : Copying before at piece 0 before
  copy_start = record { within = omega arith; long = refl; is = paste-zero before at piece }

  module _ {i : ℕ} {list : List ℕ} (s : Copying before at piece i list) where
    pub copy_on : i < length piece → Copying before at piece (i + 1) (set list (at + i) (get_or piece i 0))
    copy_on h =
        record {
          within = omega arith;
          long = length-set list (at + i) (get_or piece i 0) ∙ s.long;
          is =
              ap (λ (l : List ℕ). set l (at + i) (get_or piece i 0)) s.is
              ∙ paste-suc before at piece i 0 (omega arith) h
              ∙ ap (λ (k : ℕ). paste before at piece k) (sym (add-one i));
        }

    pub copy_end : length piece ≤ i → Put before at piece list (at + length piece)
    copy_end h =
        let end : i ≡ length piece = omega (arith, s.within) in
        record {
          ends = refl;
          fits = room;
          same_length = s.long;
          written =
              s.is
              ∙ ap (λ (k : ℕ). paste before at piece k) end
              ∙ ap (λ (p : List ℕ). take at before ++ p ++ drop (at + length piece) before) (take-length piece);
        }
