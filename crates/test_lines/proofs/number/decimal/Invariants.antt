use Rattle.std.proofs.Common.{◌<◌, ◌^◌}
use Rattle.test_lines.proofs.Numbers.{ReadTo}
use Rattle.test_lines.proofs.number.decimal.Given as goal

-- the digits so far
abbrev pub invariant-loop-byte : goal.invariant-loop-byte
invariant-loop-byte l = ReadTo l.s l.byte-index l.n × (l.n < 2 ^ 64)
