use Rattle.std.proofs.Common.{rules, tests, ltb, sym, ◌∙◌}
use Rattle.std.proofs.lemmas.Iterator.{YieldsList-from_slice}
use Rattle.std.proofs.lemmas.Iterator.Search.{all_from_yields_List}
use Rattle.test_lines.specs.Hex.{digit_of}
use Rattle.test_lines.proofs.HexLaws.{all_digits_is}
use Rattle.test_lines.proofs.hex.all_digits.Goals as goal

pub returns : goal.returns
returns c =
    all_from_yields_List (λ x. ltb (digit_of x) 16) _ _ _ c.all.ensures.ran
    (YieldsList-from_slice c.args.s.now (cc))
    (λ x b q k. search (rules, tests))
    ∙ sym (all_digits_is c.args.s.now)
