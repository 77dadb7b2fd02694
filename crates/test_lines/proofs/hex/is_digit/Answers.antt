use Rattle.std.proofs.Common.{◌∙◌}
use Rattle.test_lines.proofs.HexLaws.{found_digit}
use Rattle.test_lines.proofs.hex.is_digit.Goals as goal

pub returns : goal.returns
returns c = c.is_some.ensures ∙ found_digit c.digit.result c.digit.ensures.value c.digit.ensures.upper_bound
