use native.Mathlib.Nat.{one-mul}
use native.Mathlib.Omega.{arith}
use lib.Pow.{shl_exact}
use Rattle.bits.proofs.Setting.{set_digit}
use Rattle.bits.proofs.set_in_word.Goals as goal

pub returns : goal.returns
returns c =
    λ k.
    rw (shl_exact {a = 1} 1 c.args.i 64 (omega arith) (omega arith), one-mul)
    (set_digit c.args.word c.args.i k)
