use Rattle.std.proofs.Common.{◌∙◌}
use Rattle.test_lines.specs.Hex.{is_hex}
use Rattle.test_lines.proofs.HexLaws.{dash_is}
use Rattle.test_lines.proofs.hex.is_hex.Goals as goal

pub returns-then-eq : goal.returns-then-eq
unfolding is_hex
returns-then-eq c = rw (dash_is c.args.s.now c.as_slice.ensures c.eq.ensures ∙ c.if-eq.true) c.if-eq.true

pub returns-else-eq : goal.returns-else-eq
unfolding is_hex
returns-else-eq c = rw (dash_is c.args.s.now c.as_slice.ensures c.eq.ensures ∙ c.if-eq.false) c.is_digits.ensures
