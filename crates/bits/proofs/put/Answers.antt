use Prim.Native.Nat.{◌/◌}
use mathlib.Core.Bool.{and-true}
use native.Mathlib.Omega.{arith}
use borrow.Author.Tests.{ltb-true, lt-ltb}
use Rattle.limits.specs.Limits.{group_bits}
use Rattle.game.proofs.Encoding.{encoded_set}
use Rattle.bits.proofs.Setting.{bit_set}
use Rattle.bits.proofs.put.Goals as goal

pub returns-then-j-lt-GROUP_BITS : goal.returns-then-j-lt-GROUP_BITS
returns-then-j-lt-GROUP_BITS c =
    let words = c.args.words.now in
    let j = c.args.j in
    let set = c.set_in_word in record {
      by_index = λ i.
          rw (c.if-on.true, lt-ltb j group_bits c.if-j-lt-GROUP_BITS.true, and-true)
          (bit_set words set.result i j c.requires (omega (arith, ltb-true)) set.ensures);
      words_after = encoded_set words (j / 64) set.result c.requires (omega (arith, set.type_inv));
    }
