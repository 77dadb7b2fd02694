-- What the writer answers, and its output afterwards.
use Rattle.std.specs.Prelude.{ℕ, List, length, ltb}
use Rattle.game.specs.Network.{member_count}
use Rattle.game.specs.Tree.{network, dead_end_tree}
use Rattle.answer_forms.specs.Answer.{Check, Answer, fault, ◌then◌, answer}
use Rattle.answers.specs.Checks.{plain_check, proposal_check}
use Rattle.answers.specs.Level.{caps_check}
use Rattle.job_bytes.specs.JobBytes.{Contents, plain_job}
use Rattle.job_form.specs.Form.{longest_note}
use Rattle.job_checks.specs.JobCheck.{space_check, job_output}

-- the members of the tree: every dead end is marked
abbrev pub members_of : Contents → ℕ
members_of c = member_count (network (dead_end_tree c.parents c.costs))

-- 19: the note is longer than 255 bytes
abbrev pub note_check : ℕ → Check
note_check size = fault (ltb longest_note size) 19 0

-- 1 to 4 on lists without marks; 6 and 7 on caps, then on proposals; 19
unfoldable pub contents_check : Contents → Check
contents_check c =
    plain_check c.parents c.costs
    then caps_check (members_of c) c.caps
    then proposal_check (members_of c) c.proposals
    then note_check (length c.note)

-- the job's length
unfoldable pub length_answer : Contents → Answer ℕ
length_answer c = answer (contents_check c) (length (plain_job c))

-- the checks of the contents, then 20
unfoldable pub write_check : Contents → List ℕ → Check
write_check c out = contents_check c then space_check (length out) (length (plain_job c))

unfoldable pub write_answer : Contents → List ℕ → Answer ℕ
write_answer c out = answer (write_check c out) (length (plain_job c))

unfoldable pub write_output : Contents → List ℕ → List ℕ
write_output c out = job_output (write_check c out) (plain_job c) out
