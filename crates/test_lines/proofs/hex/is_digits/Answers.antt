use Rattle.std.proofs.Common.{arith}
use Rattle.std.proofs.lemmas.Bool.Decides.{nat_tests}
use Rattle.std.proofs.lemmas.Grind.{common_steps}
use Rattle.test_lines.specs.Hex.{is_digits}
use Rattle.test_lines.proofs.hex.is_digits.Goals as goal

pub returns-then-s-room : goal.returns-then-s-room
unfolding is_digits
returns-then-s-room c = grind (arith, nat_tests, common_steps)

pub returns-else-s-room : goal.returns-else-s-room
unfolding is_digits
returns-else-s-room c = grind (arith, nat_tests, common_steps)
