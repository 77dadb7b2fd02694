use lib.ListN.{length}
use Rattle.engine.specs.Outcomes.{level_of}
use Rattle.report_lines.specs.Lines.{member_lines}
use Rattle.buffer.proofs.Listing.{Listed}
use Rattle.report_lines.proofs.member.put_members.Given as goal

abbrev pub invariant-loop-j : goal.invariant-loop-j
invariant-loop-j l = Listed (member_lines (level_of l.level) l.vertices l.proposed l.by_arc l.shares) 150 (length l.proposed) l.initial.out l.at l.out l.next l.j
