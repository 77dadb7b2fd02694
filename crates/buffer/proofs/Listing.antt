-- Text written entry by entry: a piece for each of the numbers below n.
use Prim.Native.Nat.{ℕ, suc, ◌+◌, ◌*◌, ◌<◌, ◌≤◌}
use native.Mathlib.Numerals.{add-one}
use mathlib.Core.Path.{◌≡◌}
use mathlib.Core.List.{List, [], ◌++◌}
use native.Mathlib.Omega.{arith}
use Rattle.buffer.specs.Put.{Put}
use Rattle.buffer.proofs.Pieces.{put_none, put_then}
use lib.ListN.{length}

-- `text j` is what the numbers below j say, each in at most `most` bytes; it is written for the first j of n
pub record Listed (text : ℕ → List ℕ) (most n : ℕ) (before : List ℕ) (at : ℕ) (out : List ℕ) (next j : ℕ)
    : Type 0 where
  pub within : j ≤ n
  pub short : next ≤ at + most * j
  pub put : Put before at (text j) out next

module _ (text : ℕ → List ℕ) (most n : ℕ) (before : List ℕ) (at : ℕ) (room : at + most * n ≤ length before) where
  pub listed_start : text 0 ≡ [] → Listed text most n before at before at 0
  listed_start e = record { within = omega arith; short = omega arith; put = rw e (put_none before at (omega arith)) }

  module _ {out : List ℕ} {next j : ℕ} (s : Listed text most n before at out next j) where
    pub listed_on : {piece after : List ℕ} {end : ℕ} → j < n → text (suc j) ≡ text j ++ piece
        → Put out next piece after end → end ≤ next + most → Listed text most n before at after end (j + 1)
    listed_on h e p l =
        rw add-one
        (record { within = omega arith; short = omega arith; put = rw e (put_then s.put p) })

    pub listed_end : n ≤ j → Put before at (text n) out next
    listed_end h = let e : j ≡ n = omega (arith, s.within) in rw e at s.put
