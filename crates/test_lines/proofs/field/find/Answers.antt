use Rattle.std.proofs.Common.{◌≡◌, ◌≢◌, [], get_or, rules, tests}
use Rattle.std.proofs.lemmas.Iterator.{first_from_Range}
use Rattle.test_lines.specs.Fields.{fields_of}
use Rattle.test_lines.proofs.Fields.{first_of}
use Rattle.test_lines.proofs.field.find.Goals as goal

pub returns-clause-first : goal.returns-clause-first
returns-clause-first c =
    let fields = fields_of c.args.line.now in
    let word = c.args.word.now in
    first_of fields c.args.n word c.find.result
    (first_from_Range _ _ _ c.find.result (λ k. get_or fields k [] ≡ word) (λ k. get_or fields k [] ≢ word)
    c.find.ensures.ran
    (λ x q k. search (rules, tests))
    (λ x q k. search (rules, tests)))
