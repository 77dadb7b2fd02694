use Rattle.std.proofs.Common.{Option, ap, unwrap_or, ◌∙◌, ℕ}
use Rattle.test_lines.specs.Hex.{DIGITS, digit_of}
use Rattle.test_lines.proofs.HexLaws.{found_index}
use Rattle.test_lines.proofs.hex.digit.Goals as goal

pub returns-clause-value : goal.returns-clause-value
unfolding digit_of DIGITS
returns-clause-value c = ap (λ (r : Option ℕ). unwrap_or r 16) c.find.ensures ∙ found_index c.args.byte DIGITS
