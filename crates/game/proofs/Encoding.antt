-- A word by its bits, and the sixteen words of a group by the group's bits.
use Prim.Native.Nat.{ℕ, zero, suc, ◌+◌, ◌*◌, ◌/◌, ◌%◌, ◌^◌, ◌<◌, ◌≤◌}
use mathlib.Core.Path.{◌≡◌, refl, sym, ap, ◌∙◌}
use mathlib.Core.Bool.{Bool, true, false}
use mathlib.Core.List.{List}
use native.Mathlib.Nat.{pow-suc, zero-div}
use native.Mathlib.Decide.{dec_lt, ℕ_discrete}
use native.Mathlib.Omega.{arith}
use borrow.Author.Tests.{eq-eqb, ne_eqb}
use lib.Dec.{eqb}
use lib.ListN.{length, get_or, set, replicate, length-set, get_or-eq_default}
use lib.Seq.{get_or-set_same, get_or-set_other, set_out}
use lib.Pow.{shr-shr}
use Rattle.basics.specs.Sum.{pick, sum₀}
use Rattle.basics.specs.Bit.{digit, bit}
use Rattle.game.specs.Group.{words_of}
use Rattle.basics.proofs.Bools.{pick_le}
use Rattle.basics.proofs.Sums.{sum₀_cong}
use Rattle.basics.proofs.Lists.{entries_length, entries_at, entries_are}

-- the number whose k lowest bits are f's
abbrev word : ℕ → (ℕ → Bool) → ℕ
word k f = sum₀ k (λ b. pick (f b) (2 ^ b))

word_same : (k : ℕ) (f g : ℕ → Bool) → ((i : ℕ) → i < k → f i ≡ g i) → word k f ≡ word k g
word_same k f g e = sum₀_cong k (λ b i. ap (λ (x : Bool). pick x (2 ^ b)) (e b i))

counted : (d : ℕ) → d < 2 → pick (eqb d 1) 1 ≡ d
counted zero h = refl
counted (suc zero) h = refl
counted (suc (suc d)) h = absurd (omega arith)

-- a word's lowest bit, as a number
pub lowest : (w : ℕ) → pick (digit w 0) 1 ≡ w % 2
lowest w = omega (arith, counted (w / 1 % 2) (omega arith))

-- the other bits are those of the word's half
pub digit_half : (w i : ℕ) → digit w (suc i) ≡ digit (w / 2) i
digit_half w i = let e : suc i ≡ 1 + i = omega arith in rw (e, ← shr-shr)

double : (b : Bool) (k : ℕ) → pick b (2 ^ suc k) ≡ 2 * pick b (2 ^ k)
double true k = omega (arith, pow-suc 2 k)
double false k = refl

word_step : (k : ℕ) (f : ℕ → Bool) → word (suc k) f ≡ pick (f 0) 1 + 2 * word k (λ i. f (suc i))
word_step zero f = omega arith
word_step (suc k) f = omega (arith, word_step k f, double (f (suc k)) k)

digit_first : (b : Bool) (x : ℕ) → digit (pick b 1 + 2 * x) 0 ≡ b
digit_first true x = eq-eqb ((1 + 2 * x) / 1 % 2) 1 (omega arith)
digit_first false x = ne_eqb ((0 + 2 * x) / 1 % 2) 1 (λ e. omega arith)

word_digit : (k i : ℕ) (f : ℕ → Bool) → i < k → digit (word k f) i ≡ f i
word_digit zero i f h = absurd (omega arith)
word_digit (suc k) zero f h = rw word_step (digit_first (f 0) _)
word_digit (suc k) (suc i) f h =
    let half : word (suc k) f / 2 ≡ word k (λ j. f (suc j)) = omega (arith, word_step k f, pick_le (f 0) 1) in
    digit_half (word (suc k) f) i ∙ rw half (word_digit k i (λ j. f (suc j)) (omega arith))

-- a word of k bits is the number of its own bits
word_is : (k w : ℕ) → w < 2 ^ k → w ≡ word k (digit w)
word_is zero w h = omega arith
word_is (suc k) w h =
    omega (
      arith,
      word_step k (digit w),
      lowest w,
      word_same k (λ i. digit w (suc i)) (digit (w / 2)) (λ i l. digit_half w i),
      word_is k (w / 2) (omega (arith, pow-suc 2 k)),
    )

word_lt : (k : ℕ) (f : ℕ → Bool) → word k f < 2 ^ k
word_lt zero f = omega arith
word_lt (suc k) f = omega (arith, word_step k f, word_lt k (λ i. f (suc i)), pow-suc 2 k, pick_le (f 0) 1)

-- bit j of word i
pub bit_at : (words : List ℕ) (i j : ℕ) → j < 64 → bit words (64 * i + j) ≡ digit (get_or words i 0) j
unfolding bit
bit_at words i j h =
    let q : (64 * i + j) / 64 ≡ i = omega arith in
    let r : (64 * i + j) % 64 ≡ j = omega arith in
    rw (q, r)

-- a bit past the last word
bit_past : (words : List ℕ) (j : ℕ) → length words ≤ j / 64 → bit words j ≡ false
unfolding bit
bit_past words j h = rw (get_or-eq_default words 0 h, zero-div)

module _ (g : ℕ → Bool) where
  -- the group's word i
  part : ℕ → ℕ
  part i = word 64 (λ b. g (64 * i + b))

  pub words_length : length (words_of g) ≡ 16
  unfolding words_of part
  words_length = entries_length part 16

  words_at : (i : ℕ) → i < 16 → get_or (words_of g) i 0 ≡ part i
  unfolding words_of part
  words_at i h = entries_at part 0 16 i h

  words_are : (words : List ℕ) → length words ≡ 16 → ((i : ℕ) → i < 16 → get_or words i 0 ≡ part i) → words ≡ words_of g
  unfolding words_of part
  words_are words l h = entries_are part 0 16 words l h

  words_lt : (i : ℕ) → get_or (words_of g) i 0 < 2 ^ 64
  unfolding part
  words_lt i =
      elim (dec_lt i 16) [
        | yes h ↦ rw (words_at i h) (word_lt 64 (λ b. g (64 * i + b)))
        | no h ↦ omega (arith, get_or-eq_default (words_of g) 0 {n = i} (omega (arith, words_length)))
      ]

  pub bit_of_words : (j : ℕ) → j < 1024 → bit (words_of g) j ≡ g j
  unfolding bit part
  bit_of_words j h =
      let whole : 64 * (j / 64) + j % 64 ≡ j = omega arith in
      rw (words_at (j / 64) (omega arith))
      (word_digit 64 (j % 64) (λ b. g (64 * (j / 64) + b)) (omega arith) ∙ ap g whole)

  pub bit_beyond : (j : ℕ) → 1024 ≤ j → bit (words_of g) j ≡ false
  bit_beyond j h = bit_past (words_of g) j (omega (arith, words_length))

words_of_bits : (words : List ℕ) → length words ≡ 16 → ((i : ℕ) → get_or words i 0 < 2 ^ 64) → words ≡ words_of (bit words)
unfolding part
words_of_bits words l small =
    words_are (bit words) words l (λ i h. word_is 64 _ (small i) ∙ word_same 64 _ _ (λ b k. sym (bit_at words i b k)))

pub words_same : (g h : ℕ → Bool) → ((j : ℕ) → j < 1024 → g j ≡ h j) → words_of g ≡ words_of h
unfolding part
words_same g h e =
    words_are h (words_of g) (words_length g)
    (λ i l. words_at g i l ∙ word_same 64 _ _ (λ b k. e (64 * i + b) (omega arith)))

-- the words of a group with one of them replaced are the words of a group
pub encoded_set : (words : List ℕ) (q w : ℕ) → words ≡ words_of (bit words) → w < 2 ^ 64
    → set words q w ≡ words_of (bit (set words q w))
encoded_set words q w e h =
    words_of_bits (set words q w) (length-set words q w ∙ ap length e ∙ words_length (bit words))
    (λ i. elim (ℕ_discrete i q) [ yes d ↦ here i d | no d ↦ rw (get_or-set_other words q i w 0 d) (old i) ])
  where
    old : (i : ℕ) → get_or words i 0 < 2 ^ 64
    old i = omega (arith, ap (λ (l : List ℕ). get_or l i 0) e, words_lt (bit words) i)

    here : (i : ℕ) → i ≡ q → get_or (set words q w) i 0 < 2 ^ 64
    here i d =
        elim (dec_lt q (length words)) [
          | yes l ↦ omega (arith, ap (λ (u : ℕ). get_or (set words q w) u 0) d, get_or-set_same words q w 0 l)
          | no l ↦ rw (set_out words q w (omega arith)) (old i)
        ]

-- sixteen zeros are the words of the empty group
pub zeros : (n i : ℕ) → ◌≡◌ {A = ℕ} (get_or (replicate n 0) i 0) 0
zeros zero i = refl
zeros (suc n) zero = refl
zeros (suc n) (suc i) = zeros n i

pub bit_none : (j : ℕ) → bit (replicate 16 0) j ≡ false
unfolding bit
bit_none j = rw (zeros 16 (j / 64), zero-div)

pub none_encoded : replicate 16 0 ≡ words_of (bit (replicate 16 0))
none_encoded = words_of_bits (replicate 16 0) refl (λ i. rw (zeros 16 i) (omega arith))
