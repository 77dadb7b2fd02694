use Rattle.std.proofs.Common.{arith}
use Rattle.std.proofs.lemmas.Grind.{common_steps}
use Rattle.test_lines.proofs.Numbers.{read_stop, read_all}
use Rattle.test_lines.proofs.number.decimal.Goals as goal

pub returns-in_err-n : goal.returns-in_err-n
returns-in_err-n c =
    rw c.from_residual.ensures
    (read_stop c.args.s.now c.loop-byte.invariant.0 c.loop-byte-test.true c.in_err-n.ensures)

pub returns : goal.returns
returns c =
    read_all c.args.s.now c.loop-byte.invariant.0 c.loop-byte-test.false
    (grind (arith, common_steps))
    c.loop-byte.invariant.1
