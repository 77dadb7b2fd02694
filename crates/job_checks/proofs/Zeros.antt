-- Lists of zeros: as floors they are accepted.
use Prim.Native.Nat.{ℕ, zero, suc, ◌+◌, ◌<◌}
use mathlib.Core.Path.{◌≡◌, refl, sym, ◌∙◌}
use mathlib.Core.List.{List}
use native.Mathlib.Decide.{dec_lt}
use native.Mathlib.Omega.{arith}
use borrow.Author.Tests.{eq-eqb, le-ltb}
use lib.ListN.{length, get_or, replicate, length-replicate, get_or-replicate, get_or-eq_default}
use lib.Seq.{ext_get_or}
use Rattle.basics.specs.Sum.{entries}
use Rattle.basics.proofs.Lists.{entries_length, entries_at}
use Rattle.answer_forms.specs.Answer.{accepted, ◌then◌}
use Rattle.answers.specs.Checks.{range_check, one_by_one}
use Rattle.answers.specs.Level.{outside_cap, caps_check, floors_check}
use Rattle.job_bytes.specs.Numbers.{little_endian}
use Rattle.job_bytes.specs.Versions.{floor_width}
use Rattle.job_bytes.specs.Format.{floor_at}
use Rattle.job_bytes.specs.declared.version.Version.TheVariants.{One}

pub zero_at : (n j : ℕ) → get_or {A = ℕ} (replicate n 0) j 0 ≡ 0
zero_at n j =
    elim (dec_lt j n) [
      | yes h ↦ get_or-replicate n j 0 0 h
      | no h ↦ get_or-eq_default (replicate n 0) 0 (omega (arith, length-replicate {A = ℕ} n 0))
    ]

zeros_range : (n j : ℕ) → range_check outside_cap j (replicate n 0) ≡ accepted
unfolding range_check
zeros_range zero j = refl
zeros_range (suc n) j = zeros_range n (j + 1)

pub zeros_caps : (n m : ℕ) → n ≡ m → caps_check m (replicate n 0) ≡ accepted
zeros_caps n m e = rw (eq-eqb (length {A = ℕ} (replicate n 0)) m (length-replicate n 0 ∙ e)) (zeros_range n 0)

pub zeros_within : (caps : List ℕ) (n k : ℕ) → floors_check k caps (replicate n 0) ≡ accepted
unfolding one_by_one
zeros_within caps n zero = refl
zeros_within caps n (suc k) =
    rw (zeros_within caps n k, le-ltb (get_or caps k 0) (get_or (replicate n 0) k 0) (omega (arith, zero_at n k)))

pub zeros_are : (l : List ℕ) (n : ℕ) → length l ≡ n → ((i : ℕ) → i < n → get_or l i 0 ≡ 0) → l ≡ replicate n 0
zeros_are l n e h =
    ext_get_or 0 l (replicate n 0) (e ∙ sym (length-replicate n 0)) (λ i m. h i (omega (arith, e)) ∙ sym (zero_at n i))

-- the floors of version 1
pub none_below : (bytes caps : List ℕ) (offset n : ℕ)
    → accepted
    ≡ (caps_check n (entries n (floor_at One bytes offset))
    then floors_check n caps (entries n (floor_at One bytes offset)))
unfolding floor_width little_endian
none_below bytes caps offset n =
    let f = floor_at One bytes offset in
    let zeros = zeros_are (entries n f) n (entries_length f n) (λ j h. entries_at f 0 n j h) in
    rw zeros (rw (zeros_caps n n refl) (sym (zeros_within caps n n)))
