use Prim.Native.Nat.{◌*◌}
use mathlib.Core.Path.{◌≡◌}
use Rattle.basics.specs.Bit.{bit}
use Rattle.basics.specs.Sum.{size}
use Rattle.bits.proofs.size_of.Given as goal

abbrev pub invariant-loop-word : goal.invariant-loop-word
invariant-loop-word l = l.total ≡ size (64 * l.word-index) (bit l.fn.words)
