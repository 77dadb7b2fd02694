-- What the functions of this crate write, beside the lines of a report.
use Rattle.std.specs.Prelude.{List, ℕ}
use Rattle.answer_forms.specs.Answer.{Answer, value, refusal}
use Rattle.answers.specs.Needs.{NeedsValue}
use Rattle.report_lines.specs.Lines.{refused_line, cost_line}

-- the needs of a job that was read are not refused
abbrev pub needs_line : Answer NeedsValue → List ℕ
needs_line (value found) = cost_line found.whole found.members
needs_line (refusal number place) = refused_line number place
