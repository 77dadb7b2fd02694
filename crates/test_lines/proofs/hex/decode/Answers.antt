use mathlib.Core.Path.{sym, ◌∙◌}
use native.Mathlib.Omega.{arith}
use Rattle.test_lines.specs.Hex.{bytes_of}
use Rattle.test_lines.proofs.Copied.{copied_more}
use Rattle.test_lines.proofs.HexLaws.{bytes_length, bytes_at}
use Rattle.test_lines.proofs.hex.decode.Goals as goal

pub loop-i-preserved : goal.loop-i-preserved
loop-i-preserved c =
    let a = c.args in
    let l = c.loop-i in
    let s = a.s.now in
    copied_more (bytes_of s) a.out.now a.n c.byte_of.result 0
    (omega (arith, bytes_length s))
    (omega arith)
    l.invariant
    c.loop-i-test.true
    (c.byte_of.ensures ∙ sym (bytes_at s l.i (omega arith)))
