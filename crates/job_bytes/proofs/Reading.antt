-- A little-endian number, read from its last byte to its first.
use Rattle.std.proofs.Common.{ℕ, zero, suc, ◌≡◌, ◌+◌, ◌*◌, ◌%◌, ◌^◌, ◌<◌, ◌≤◌, List, [], ◌∷◌, length, take, drop}
use Rattle.std.proofs.Common.{reverse, fold, bit_or, arith, refl, ap, ◌∙◌, add-one, drop-cons}
use Rattle.std.proofs.Math.Nat.{pow-le-pow_right, mod-eq_of_lt}
use Rattle.std.proofs.lemmas.List.{reverse-append}
use Rattle.std.proofs.lemmas.List.Sums.{fold-append}
use Rattle.std.proofs.lemmas.Nat.{or_shifted}
use Rattle.job_bytes.specs.Numbers.{byte_at, little_endian, Bytes}
use Rattle.job_bytes.proofs.Standing.{number_small}

-- a number with one byte more in front
abbrev pub behind : ℕ → ℕ → ℕ
behind n byte = bit_or (n * 2 ^ 8 % 2 ^ 64) byte

module _ (bytes : List ℕ) (small : Bytes bytes) where
  behind_sum : (n width byte : ℕ) → n < 256 ^ width → width ≤ 7 → byte < 256 → behind n byte ≡ byte + 256 * n
  behind_sum n width byte h w b =
      let most = pow-le-pow_right {n = 256} (omega arith) {i = width} {j = 7} w in
      let whole : n * 2 ^ 8 % 2 ^ 64 ≡ n * 2 ^ 8 = mod-eq_of_lt (omega (arith, h, most)) in
      rw (whole, or_shifted n 8 byte b) (omega arith)

  pub read_back : (width at : ℕ) → width ≤ 8 → at + width ≤ length bytes
      → fold behind 0 (reverse (take width (drop at bytes))) ≡ little_endian bytes at width
  unfolding little_endian
  read_back zero at w room = refl
  read_back (suc width) at w room =
      let byte = byte_at bytes at in
      let more = take width (drop (suc at) bytes) in
      let first : drop at bytes ≡ byte ∷ drop (suc at) bytes = drop-cons bytes at 0 (omega arith) in
      let next = number_small bytes small width (at + 1) in
      ap (λ (l : List ℕ). fold behind 0 (reverse (take (suc width) l))) first
      ∙ ap (λ (l : List ℕ). fold behind 0 l) (reverse-append (byte ∷ []) more)
      ∙ fold-append behind 0 (reverse more) (byte ∷ [])
      ∙ ap (λ (n : ℕ). behind n byte) (rw add-one at (read_back width (at + 1) (omega arith) (omega arith)))
      ∙ behind_sum _ width byte (rw add-one at next) (omega arith) (small at)
      ∙ rw add-one
