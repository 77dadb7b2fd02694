-- The report on a job, as bytes.
use Rattle.std.specs.Prelude.{ℕ, List, ◌++◌, replicate, ℤ}
use Rattle.game.specs.Network.{whole_cost, member_count, members}
use Rattle.game.specs.Tree.{Tree, network}
use Rattle.answer_forms.specs.Answer.{Check, accepted, refused}
use Rattle.answers.specs.Audit.{total_answer, search_answer, search_words}
use Rattle.answers.specs.Level.{level_answer, level_list}
use Rattle.answers.specs.ByArc.{by_arc_list}
use Rattle.job_bytes.specs.Format.{job_caps, job_proposals}
use Rattle.job_bytes.specs.declared.version.Version.TheVariants.{One}
use Rattle.job_checks.specs.JobCheck.{job_check, job_tree}
use Rattle.report_lines.specs.Lines.{refused_line, cost_line, audit_text, level_line, member_lines}

-- a list to be written, with one entry a member
abbrev pub blank : Tree → List ℕ
blank t = replicate (member_count (network t)) 0

-- a job of version 1 sets no floors: every member's is 0
abbrev pub no_floors : Tree → List ℕ
no_floors t = replicate (member_count (network t)) 0

-- the line on the tree
abbrev pub cost_text : Tree → List ℕ
cost_text t = cost_line (whole_cost (network t)) (member_count (network t))

-- the lines on the tree and the proposal
unfoldable pub tree_text : Tree → List ℤ → List ℕ
tree_text t proposed =
    cost_text t
    ++ audit_text (member_count (network t)) (total_answer t proposed) (search_answer t proposed) (search_words t proposed)

-- the lines on the two splits
unfoldable pub split_text : Tree → List ℕ → List ℤ → List ℕ
split_text t caps proposed =
    level_line (level_answer t caps (no_floors t) (blank t))
    ++ member_lines
    (level_answer t caps (no_floors t) (blank t))
    (members (network t))
    proposed
    (by_arc_list t (blank t))
    (level_list t caps (no_floors t) (blank t))
    (member_count (network t))

abbrev pub job_text : Tree → List ℕ → List ℤ → List ℕ
job_text t caps proposed = tree_text t proposed ++ split_text t caps proposed

abbrev pub report_of : Check → List ℕ → List ℕ
report_of accepted bytes = job_text (job_tree One bytes) (job_caps One bytes) (job_proposals One bytes)
report_of (refused number place) bytes = refused_line number place

-- the report reads version 1
unfoldable pub report_text : List ℕ → List ℕ
report_text bytes = report_of (job_check One bytes) bytes
