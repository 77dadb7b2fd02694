use mathlib.Core.Path.{◌≡◌, sym, ◌∙◌}
use native.Mathlib.Omega.{arith}
use Rattle.basics.specs.Bit.{bit}
use Rattle.bits.proofs.Words.{clear_rest}
use Rattle.bits.proofs.clear_run.Goals as goal

pub returns-then-words-j-eq0 : goal.returns-then-words-j-eq0
returns-then-words-j-eq0 c =
    record {
      clear = λ k l h. clear_rest c.args.words c.args.j k c.if-words-j-eq0.true l h;
      none = λ e. absurd (omega arith);
      small = omega arith;
    }

pub returns-then-bit_of : goal.returns-then-bit_of
unfolding bit
returns-then-bit_of c =
    let first_bit : let args = c.args in c.bit_of.result ≡ bit args.words args.j = c.bit_of.ensures in
    record {
      clear = λ k l h. absurd (omega arith);
      none = λ e. sym (first_bit) ∙ c.if-bit_of.true;
      small = omega arith;
    }

pub returns-else-bit_of : goal.returns-else-bit_of
unfolding bit
returns-else-bit_of c =
    let first_bit : let args = c.args in c.bit_of.result ≡ bit args.words args.j = c.bit_of.ensures in
    let j = c.args.j in
    record {
      clear = λ k l h. let e : k ≡ j = omega arith in rw e (sym (first_bit) ∙ c.if-bit_of.false);
      none = λ e. absurd (omega arith);
      small = omega arith;
    }
