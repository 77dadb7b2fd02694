use Rattle.std.proofs.Common.{sym, ap, ◌∙◌}
use Rattle.test_lines.specs.Lists.{parts_of}
use Rattle.test_lines.proofs.Lists.{cut_first, cut_none, goes_on}
use Rattle.test_lines.proofs.list.EntriesIterator.next.Goals as goal

pub returns-in-Some-clause-steps : goal.returns-in-Some-clause-steps
returns-in-Some-clause-steps c =
    ap parts_of c.in_ok-text.was ∙ cut_first _ _ _ (sym c.find.ensures ∙ c.in-Some.is)

pub returns-in-Some-clause-goes : goal.returns-in-Some-clause-goes
returns-in-Some-clause-goes c = goes_on (returns-in-Some-clause-steps c)

pub returns-in-None-clause-steps : goal.returns-in-None-clause-steps
returns-in-None-clause-steps c =
    ap parts_of c.in_ok-text.was ∙ cut_none _ _ (sym c.find.ensures ∙ c.in-None.is)

pub returns-in-None-clause-goes : goal.returns-in-None-clause-goes
returns-in-None-clause-goes c = goes_on (returns-in-None-clause-steps c)
