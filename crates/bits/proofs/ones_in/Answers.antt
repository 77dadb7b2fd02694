use Rattle.bits.proofs.Words.{ones_digits}
use Rattle.bits.proofs.ones_in.Goals as goal

pub returns : goal.returns
returns c = ones_digits 64 c.args.word c.ranges.word.fits
