-- Digits and the bytes that they make.
use Prim.Native.Nat.{ℕ, zero, suc, ◌+◌, ◌*◌, ◌/◌, ◌%◌, ◌<◌, ◌≤◌}
use mathlib.Core.Path.{◌≡◌, refl, sym, ap, ◌∙◌}
use mathlib.Core.Bool.{Bool, true, false, cond, not, true≢false, ◌&&◌, ◌||◌}
use mathlib.Core.List.{List, [], ◌∷◌}
use native.Mathlib.Nat.{not-suc-le-zero, le_of_suc-le-suc}
use native.Mathlib.Numerals.{add-one, one-add}
use native.Mathlib.Omega.{arith}
use borrow.Author.Tests.{ltb-true, leb-true, eqb-true, lt-ltb, le-ltb, ne_eqb}
use lib.Dec.{eqb, leb, ltb}
use lib.ListN.{length, get_or, drop, drop_of_length-le}
use lib.Pointwise.{pointwise}
use lib.Seq.{drop-cons}
use Rattle.std.proofs.Common.{Option, None, Some, IfSome, is_some, unwrap_or, position}
use Rattle.std.proofs.lemmas.Grind.{common_steps}
use Rattle.std.proofs.lemmas.List.Recursion.{is_position_or_len}
use Rattle.std.proofs.lemmas.List.Sums.{prefix_len-le-length}
use Rattle.std.specs.List.{list_all, position_or_len}
use Rattle.test_lines.specs.Bytes.{index_after, index_of}
use Rattle.test_lines.specs.Hex.{Digits, all_digits, bytes_of, digit_of, is_dash, is_digits, is_hex}

and_left : (a b : Bool) → (a && b) ≡ true → a ≡ true
and_left true b e = refl
and_left false b e = e

and_right : (a b : Bool) → (a && b) ≡ true → b ≡ true
and_right true b e = e
and_right false b e = absurd (true≢false (sym e))

either : {P : Type 0} (a b : Bool) → (a || b) ≡ true → (a ≡ true → P) → (b ≡ true → P) → P
either true b e f g = f refl
either false b e f g = g e

after_is : (b : Bool) (k : ℕ) → index_after b k ≡ cond b 0 (1 + k)
unfolding index_after
after_is true k = refl
after_is false k = sym (one-add k)

index_is : (byte : ℕ) (xs : List ℕ) → index_of byte xs ≡ position_or_len (λ x. eqb x byte) xs
unfolding index_of
index_is byte =
    is_position_or_len (index_of byte) (λ x. eqb x byte) refl (λ x xs. after_is (eqb x byte) (index_of byte xs))

pub found_index : (byte : ℕ) (xs : List ℕ)
    → unwrap_or (position (λ x. eqb x byte) xs) (length xs) ≡ index_of byte xs
found_index byte xs =
    let is = index_is byte xs in
    let bound = prefix_len-le-length (λ x. not (eqb x byte)) xs in
    grind (arith, common_steps)

-- a comparison with "-"
dash_test : (s : List ℕ) → pointwise eqb s (45 ∷ []) ≡ is_dash s
unfolding is_dash
dash_test [] = refl
dash_test (x ∷ []) = elim (eqb x 45) as (λ b. (b && true) ≡ b) [ true ↦ refl | false ↦ refl ]
dash_test (x ∷ y ∷ s) =
    rw (ne_eqb (length (x ∷ y ∷ s)) 1 (λ e. omega arith))
    (elim (eqb x 45) as (λ b. (b && false) ≡ false) [ true ↦ refl | false ↦ refl ])

pub dash_is : {found : Bool} (s : List ℕ) {text : List ℕ} → text ≡ 45 ∷ [] → found ≡ pointwise eqb s text
    → is_dash s ≡ found
dash_is s t e = sym (e ∙ ap (λ (l : List ℕ). pointwise eqb s l) t ∙ dash_test s)

-- a digit was found where its value is below 16
pub found_digit : {value : ℕ} (r : Option ℕ) → unwrap_or r 16 ≡ value → IfSome r (λ v. v < 16)
    → is_some r ≡ ltb value 16
found_digit {value} None e h = sym (le-ltb value 16 (omega arith))
found_digit {value} (Some v) e h = sym (lt-ltb value 16 (omega arith))

pub all_digits_is : (s : List ℕ) → all_digits s ≡ list_all (λ x. ltb (digit_of x) 16) s
unfolding all_digits
all_digits_is [] = refl
all_digits_is (x ∷ s) = ap (λ rest. ltb (digit_of x) 16 && rest) (all_digits_is s)

-- the digits from place i on: those behind it, where a digit stands there, and none at the end
module _ {found : Bool} (s : List ℕ) (i : ℕ) (so_far : found ≡ all_digits (drop i s)) where
  turn : i < length s → found ≡ (ltb (digit_of (get_or s i 0)) 16 && all_digits (drop (i + 1) s))
  unfolding all_digits
  turn h = so_far ∙ rw (drop-cons s i 0, add-one)

  pub digits_on : i < length s → digit_of (get_or s i 0) < 16 → found ≡ all_digits (drop (i + 1) s)
  digits_on h small = rw (lt-ltb (digit_of (get_or s i 0)) 16 small) at (turn h)

  pub digits_stop : i < length s → 16 ≤ digit_of (get_or s i 0) → false ≡ found
  digits_stop h large = sym (rw (le-ltb (digit_of (get_or s i 0)) 16 large) at (turn h))

  pub digits_end : length s ≤ i → true ≡ found
  unfolding all_digits
  digits_end h = sym (rw (drop_of_length-le s h) at so_far)

all_at : (s : List ℕ) (k : ℕ) → all_digits s ≡ true → k < length s → digit_of (get_or s k 0) < 16
unfolding all_digits
all_at [] k e h = absurd (not-suc-le-zero h)
all_at (x ∷ s) zero e h = ltb-true (digit_of x) 16 (and_left (ltb (digit_of x) 16) (all_digits s) e)
all_at (x ∷ s) (suc k) e h = all_at s k (and_right (ltb (digit_of x) 16) (all_digits s) e) (le_of_suc-le-suc h)

pub bytes_length : (s : List ℕ) → length (bytes_of s) ≡ length s / 2
unfolding bytes_of
bytes_length [] = refl
bytes_length (x ∷ []) = refl
bytes_length (x ∷ y ∷ s) = omega (arith, bytes_length s)

-- byte i has the digits 2 i and 2 i + 1
pub bytes_at : (s : List ℕ) (i : ℕ) → 2 * i + 1 < length s
    → get_or (bytes_of s) i 0 ≡ 16 * digit_of (get_or s (2 * i) 0) + digit_of (get_or s (2 * i + 1) 0)
unfolding bytes_of
bytes_at [] i h = absurd (not-suc-le-zero h)
bytes_at (x ∷ []) i h = absurd (omega arith)
bytes_at (x ∷ y ∷ s) zero h = refl
bytes_at (x ∷ y ∷ s) (suc i) h =
    let first : 2 * suc i ≡ suc (suc (2 * i)) = omega arith in
    let second : suc (suc (2 * i)) + 1 ≡ suc (suc (2 * i + 1)) = omega arith in
    rw (first, second) (bytes_at s i (omega arith))

module _ (s : List ℕ) (room : ℕ) where
  digits_fit : is_digits s room ≡ true → (Digits (2 * (length s / 2)) s) × (length s / 2 ≤ room)
  unfolding is_digits
  digits_fit e =
      let even = and_right (ltb 0 (length s)) _ e in
      let short = and_right (eqb (length s % 2) 0) _ even in
      let all = and_right (leb (length s / 2) room) _ short in (
        record {
          within = omega arith;
          each = λ k h. all_at s k all (omega arith);
        },
        leb-true (length s / 2) room (and_left (leb (length s / 2) room) (all_digits s) short),
      )

  dash_fits : is_dash s ≡ true → (Digits (2 * (length s / 2)) s) × (length s / 2 ≤ room)
  unfolding is_dash
  dash_fits e =
      let one = eqb-true (length s) 1 (and_left (eqb (length s) 1) (eqb (get_or s 0 0) 45) e) in (
        record {
          within = omega arith;
          each = λ k h. absurd (omega arith);
        },
        omega arith,
      )

  -- what can be read has digits enough for its bytes, and these have room
  pub hex_fits : is_hex s room ≡ true → (Digits (2 * (length s / 2)) s) × (length s / 2 ≤ room)
  unfolding is_hex
  hex_fits e = either (is_dash s) (is_digits s room) e dash_fits digits_fit
