use Rattle.std.proofs.Common.{arith}
use Rattle.std.proofs.lemmas.Int.{ints}
use Rattle.numbers.specs.Signed.{signed64}
use Rattle.numbers.proofs.signed.of_bits.Goals as goal

pub returns : goal.returns
unfolding signed64
returns c = grind (arith, ints)
