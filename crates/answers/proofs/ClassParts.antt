-- The parts of the classes in a list that has so many entries a class, and lists one behind another.
use Prim.Native.Nat.{ℕ, zero, suc, ◌+◌, ◌*◌, ◌≤◌, ◌<◌}
use mathlib.Core.Path.{◌≡◌, refl, ap, ap₂, ◌∙◌}
use mathlib.Core.List.{List, ◌++◌}
use native.Mathlib.Decide.{dec_lt}
use native.Mathlib.Nat.{suc-mul, mul-le-mul_right}
use native.Mathlib.Omega.{arith}
use lib.ListN.{length, get_or, take, drop, length-append, length-drop}
use lib.Seq.{length-take-le, take_all, take-append-le, drop-append-le, drop_at, get_or-take, get_or-drop}
use Rattle.answers.specs.Classes.{part, joined}

module _ (size : ℕ) where
  -- a class's part ends within the list
  pub part_within : (n c : ℕ) → c < n → c * size + size ≤ n * size
  part_within n c h = omega (arith, suc-mul c size, mul-le-mul_right {m = suc c} {n = n} size h)

  pub part_length : (n c : ℕ) (l : List ℕ) → length l ≡ n * size → c < n → length (part size c l) ≡ size
  part_length n c l e h =
      length-take-le size (drop (c * size) l) (omega (arith, part_within n c h, length-drop (c * size) l))

  pub part_at : (c i : ℕ) (l : List ℕ) → i < size → get_or (part size c l) i 0 ≡ get_or l (c * size + i) 0
  part_at c i l h = get_or-take size (drop (c * size) l) i 0 h ∙ get_or-drop (c * size) l i 0

  module _ (f : ℕ → List ℕ) where
    pub joined_length : (n : ℕ) → ((c : ℕ) → c < n → length (f c) ≡ size) → length (joined n f) ≡ n * size
    unfolding joined
    joined_length zero sized = omega arith
    joined_length (suc n) sized =
        omega (
          arith,
          length-append (joined n f) (f n),
          joined_length n (λ c h. sized c (omega arith)),
          sized n (omega arith),
          suc-mul n size,
        )

    pub joined_part : (n c : ℕ) → ((d : ℕ) → d < n → length (f d) ≡ size) → c < n → part size c (joined n f) ≡ f c
    unfolding joined
    joined_part zero c sized h = absurd (omega arith)
    joined_part (suc n) c sized h =
        elim (dec_lt c n) [
          | yes l ↦
              ap (take size) (drop-append-le (c * size) (joined n f) (f n) (omega (arith, part_within n c l, long)))
              ∙ take-append-le size (drop (c * size) (joined n f)) (f n)
              (omega (arith, part_within n c l, long, length-drop (c * size) (joined n f)))
              ∙ joined_part n c (λ d b. sized d (omega arith)) l
          | no l ↦ last (omega arith)
        ]
      where
        long : length (joined n f) ≡ n * size
        long = joined_length n (λ d b. sized d (omega arith))

        last : c ≡ n → part size c (joined n f ++ f n) ≡ f c
        last e =
            rw e
            (ap (take size) (drop_at (joined n f) (f n) (n * size) long)
            ∙ take_all size (f n) (omega (arith, sized n (omega arith))))

-- lists with the same parts
pub joined_cong : (n : ℕ) (f g : ℕ → List ℕ) → ((c : ℕ) → c < n → f c ≡ g c) → joined n f ≡ joined n g
unfolding joined
joined_cong zero f g h = refl
joined_cong (suc n) f g h =
    ap₂ (λ (a b : List ℕ). a ++ b) (joined_cong n f g (λ c l. h c (omega arith))) (h n (omega arith))
