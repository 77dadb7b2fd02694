use Rattle.std.proofs.Common.{arith}
use Rattle.std.proofs.lemmas.Int.{ints}
use Rattle.numbers.specs.Signed.{bits64}
use Rattle.numbers.proofs.signed.bits_of.Goals as goal

pub returns : goal.returns
unfolding bits64
returns c = grind (arith, ints)
