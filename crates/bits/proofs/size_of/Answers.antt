use Prim.Native.Nat.{◌*◌}
use native.Mathlib.Omega.{arith}
use lib.ListN.{get_or}
use Rattle.basics.specs.Bit.{digit, bit}
use Rattle.basics.specs.Sum.{size}
use Rattle.basics.proofs.Sizes.{size_le}
use Rattle.bits.proofs.Words.{size_word}
use Rattle.bits.proofs.size_of.Goals as goal

pub loop-word-init : goal.loop-word-init
unfolding size
loop-word-init c = omega arith

pub overflow_add-total : goal.overflow_add-total
overflow_add-total c =
    let words = c.args.words in
    let i = c.loop-word.word-index in
    omega (arith, size_le (64 * i) (bit words), size_le 64 (digit (get_or words i 0)))

pub loop-word-preserved : goal.loop-word-preserved
loop-word-preserved c = omega (arith, size_word c.args.words c.loop-word.word-index)
