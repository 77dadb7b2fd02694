use Rattle.report_lines.specs.Lines.{group_text}
use Rattle.buffer.proofs.Listing.{Listed}
use Rattle.report_lines.proofs.audit.put_group.Given as goal

abbrev pub invariant-loop-j : goal.invariant-loop-j
invariant-loop-j l = Listed (group_text l.words) 21 l.members l.initial.out l.at l.out l.next l.j
