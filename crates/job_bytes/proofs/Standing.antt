-- Bytes that stand in others from a place on.
--
--   front_stands, all_stands      the front of a list, and the list, stand at its start
--   stands_all                    what stands at the start of a list and is as long is the list
--   front_is                      what stands at the start of a list is its front
--   stands_at                     the place by another name
--   stands_first, stands_second   of two pieces one after the other
--   stands_both                   two pieces, one after the other
--   stands_row, stands_rows       the same of rows
--   stands_number, number_stands  a number in bytes, and the number that they are
--   number_small                  a number of so many bytes
use Prim.Native.Nat.{ℕ, zero, suc, ◌+◌, ◌*◌, ◌-◌, ◌/◌, ◌%◌, ◌^◌, ◌<◌, ◌≤◌}
use mathlib.Core.Path.{◌≡◌, refl, sym, ap, ◌∙◌}
use mathlib.Core.List.{List, ◌++◌}
use native.Mathlib.Nat.{add-zero, zero-add, pow-succ'}
use native.Mathlib.Decide.{dec_lt}
use native.Mathlib.Omega.{arith}
use lib.ListN.{length, take, length-append, get_or-append}
use lib.Seq.{get_or-append-add, get_or-take, length-take-le, ext_get_or}
use Rattle.job_bytes.specs.Numbers.{byte_at, little_endian, in_bytes, Bytes}
use Rattle.job_bytes.specs.JobBytes.{rows}

-- the k bytes of s stand in `bytes` from a place on
pub record Stands (bytes : List ℕ) (at k : ℕ) (s : List ℕ) : Type 0 where
  pub sized : length s ≡ k
  pub same : (i : ℕ) → i < k → byte_at bytes (at + i) ≡ byte_at s i

pub in_bytes_length : (width x : ℕ) → length (in_bytes width x) ≡ width
unfolding in_bytes
in_bytes_length zero x = refl
in_bytes_length (suc width) x = ap suc (in_bytes_length width (x / 256))

-- rows of k bytes each
pub rows_length : (row : ℕ → List ℕ) (k : ℕ) → ((i : ℕ) → length (row i) ≡ k) → (n : ℕ) → length (rows row n) ≡ k * n
unfolding rows
rows_length row k e zero = omega arith
rows_length row k e (suc n) = omega (arith, length-append (rows row n) (row n), rows_length row k e n, e n)

module _ {bytes : List ℕ} where
  pub front_stands : (n : ℕ) → n ≤ length bytes → Stands bytes 0 n (take n bytes)
  front_stands n h =
      record {
        sized = length-take-le n bytes h;
        same = λ i l. rw zero-add (sym (get_or-take n bytes i 0 l));
      }

  pub all_stands : Stands bytes 0 (length bytes) bytes
  all_stands = record { sized = refl; same = λ i l. rw zero-add refl }

  pub stands_all : {s : List ℕ} → Stands bytes 0 (length bytes) s → s ≡ bytes
  stands_all {s} h =
      ext_get_or 0 s bytes h.sized (λ i l. sym (rw zero-add at (h.same i (omega (arith, h.sized)))))

  pub front_is : {n : ℕ} {s : List ℕ} → n ≤ length bytes → Stands bytes 0 n s → take n bytes ≡ s
  front_is {n} {s} long h =
      let sized = length-take-le n bytes long in
      ext_get_or 0 (take n bytes) s (sized ∙ sym h.sized)
      (λ i l. get_or-take n bytes i 0 (omega (arith, sized)) ∙ rw zero-add at (h.same i (omega (arith, sized))))

  pub stands_at : {place at k : ℕ} {s : List ℕ} → place ≡ at → Stands bytes place k s → Stands bytes at k s
  stands_at e h = rw (← e) h

  module _ {at k : ℕ} {s t : List ℕ} where
    pub stands_both : {j : ℕ} → Stands bytes at k s → Stands bytes (at + k) j t → Stands bytes at (k + j) (s ++ t)
    stands_both {j} hs ht =
        record { sized = omega (arith, length-append s t, hs.sized, ht.sized); same = same_at }
      where
        same_at : (i : ℕ) → i < k + j → byte_at bytes (at + i) ≡ byte_at (s ++ t) i
        same_at i l =
            elim (dec_lt i k) [
              | yes h ↦ hs.same i h ∙ sym (get_or-append s t 0 i (omega (arith, hs.sized)))
              | no h ↦
                  let place : at + k + (i - k) ≡ at + i = omega arith in
                  let split : length s + (i - k) ≡ i = omega (arith, hs.sized) in
                  rw place at (ht.same (i - k) (omega arith))
                  ∙ sym (get_or-append-add s t (i - k) 0)
                  ∙ ap (λ (n : ℕ). byte_at (s ++ t) n) split
            ]

  module _ {at n k : ℕ} (s t : List ℕ) (long : length s ≡ k) (h : Stands bytes at n (s ++ t)) where
    pub stands_first : Stands bytes at k s
    stands_first =
        record {
          sized = long;
          same = λ i l. h.same i (omega (arith, length-append s t, h.sized, long))
              ∙ get_or-append s t 0 i (omega (arith, long));
        }

    pub stands_second : Stands bytes (at + k) (n - k) t
    stands_second =
        record { sized = omega (arith, length-append s t, h.sized, long); same = same_at }
      where
        same_at : (i : ℕ) → i < n - k → byte_at bytes (at + k + i) ≡ byte_at t i
        same_at i l =
            let place : at + k + i ≡ at + (length s + i) = omega (arith, long) in
            rw place (h.same (length s + i) (omega (arith, long)) ∙ get_or-append-add s t i 0)

  -- rows of k bytes each
  module _ {at : ℕ} (k : ℕ) (row : ℕ → List ℕ) where
    pub stands_rows : (n : ℕ) → ((i : ℕ) → i < n → Stands bytes (at + k * i) k (row i))
        → Stands bytes at (k * n) (rows row n)
    unfolding rows
    stands_rows zero h = record { sized = omega arith; same = λ i l. absurd (omega arith) }
    stands_rows (suc n) h =
        let more : k * suc n ≡ k * n + k = omega arith in
        rw more (stands_both (stands_rows n (λ i l. h i (omega arith))) (h n (omega arith)))

    pub stands_row : ((i : ℕ) → length (row i) ≡ k) → (n : ℕ) {j : ℕ} → Stands bytes at j (rows row n)
        → (i : ℕ) → i < n → Stands bytes (at + k * i) k (row i)
    unfolding rows
    stands_row sized zero {j} h i l = absurd (omega arith)
    stands_row sized (suc n) {j} h i l =
        elim (dec_lt i n) [
          | yes m ↦ stands_row sized n (stands_first (rows row n) (row n) (rows_length row k sized n) h) i m
          | no m ↦
              let last : i ≡ n = omega arith in
              let here = stands_second (rows row n) (row n) (rows_length row k sized n) h in
              let whole : j - k * n ≡ k = omega (arith, here.sized, sized n) in
              rw last (rw whole at here)
        ]

  pub stands_number : (width : ℕ) {at x : ℕ} → x < 256 ^ width → Stands bytes at width (in_bytes width x)
      → little_endian bytes at width ≡ x
  unfolding little_endian in_bytes
  stands_number zero {at} {x} small h = omega arith
  stands_number (suc width) {at} {x} small h =
      let first : byte_at bytes at ≡ x % 256 = rw (add-zero at) at (h.same 0 (omega arith)) in
      let others = stands_number width (omega (arith, rw pow-succ' at small))
      (record { sized = in_bytes_length width (x / 256); same = λ i l. next i (h.same (suc i) (omega arith)) }) in
      omega (arith, first, others)
    where
      next : {y : ℕ} (i : ℕ) → byte_at bytes (at + suc i) ≡ y → byte_at bytes (at + 1 + i) ≡ y
      next i e = let place : at + 1 + i ≡ at + suc i = omega arith in rw place e

module _ (bytes : List ℕ) (b : Bytes bytes) where
  same_bytes : (width at i : ℕ) → i < width
      → byte_at bytes (at + i) ≡ byte_at (in_bytes width (little_endian bytes at width)) i
  unfolding little_endian in_bytes
  same_bytes zero at i l = absurd (omega arith)
  same_bytes (suc width) at zero l = rw (add-zero at) (omega (arith, b at))
  same_bytes (suc width) at (suc i) l =
      let place : at + suc i ≡ at + 1 + i = omega arith in
      let n = little_endian bytes (at + 1) width in
      let others : (byte_at bytes at + 256 * n) / 256 ≡ n = omega (arith, b at) in
      rw (place, others) (same_bytes width (at + 1) i (omega arith))

  pub number_stands : (width at : ℕ) → Stands bytes at width (in_bytes width (little_endian bytes at width))
  number_stands width at = record { sized = in_bytes_length width _; same = same_bytes width at }

  pub number_small : (width at : ℕ) → little_endian bytes at width < 256 ^ width
  unfolding little_endian
  number_small zero at = omega arith
  number_small (suc width) at = rw pow-succ' (omega (arith, b at, number_small width (at + 1)))
