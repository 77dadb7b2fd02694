-- What a job becomes in the other version: the answers, and the outputs afterwards.
use Rattle.std.specs.Prelude.{ℕ, pred, ◌&&◌, not, List, length, replicate, ltb}
use Rattle.game.specs.Tree.{of_arc, marked, dead_ends}
use Rattle.answer_forms.specs.Answer.{Check, Answer, fault, ◌then◌, answer}
use Rattle.answers.specs.Checks.{one_by_one}
use Rattle.job_bytes.specs.JobBytes.{filled_with, job_bytes}
use Rattle.job_bytes.specs.Format.{job_arcs, job_members, job_parents, job_fillers, job_floors, job_contents}
use Rattle.job_bytes.specs.declared.version.Version.{Version}
use Rattle.job_bytes.specs.declared.version.Version.TheVariants.{One, Two}
use Rattle.job_checks.specs.JobCheck.{job_check, space_check, job_output}

-- the version that a job is converted from
unfoldable pub other : Version → Version
other One = Two
other Two = One

-- the fillers that a job is given, by its parents: 0 in version 1, in version 2 the marks of the dead ends
unfoldable pub fillers_in : Version → List ℕ → List ℕ
fillers_in One parents = replicate (length parents) 0
fillers_in Two parents = dead_ends parents

-- a job of the other version in this one: the same contents, with those fillers and floors of 0
unfoldable pub in_version : Version → List ℕ → List ℕ
in_version v bytes = job_bytes v (filled_with (fillers_in v (job_parents bytes)) (job_contents (other v) bytes))

-- 29 at the lowest vertex that is a dead end and not marked
unfoldable pub unmarked_check : (ends marks : List ℕ) → ℕ → Check
unmarked_check ends marks arcs = one_by_one (λ k. fault (marked ends k && not (marked marks k)) 29 k) arcs

-- 30 at the lowest member with a floor above 0; entry i of a list, from 1 on, is that of member i - 1
unfoldable pub floored_check : List ℕ → ℕ → Check
floored_check floors members = one_by_one (λ i. fault (ltb 0 (of_arc floors i)) 30 (pred i)) members

-- version 2's checks but 10, then 29 and 30
unfoldable pub back_check : List ℕ → Check
back_check bytes =
    job_check Two bytes
    then unmarked_check (dead_ends (job_parents bytes)) (job_fillers bytes) (job_arcs bytes)
    then floored_check (job_floors Two bytes) (job_members bytes)

-- to version 2: version 1's checks but 10, then 20
unfoldable pub to2_check : (bytes out : List ℕ) → Check
to2_check bytes out = job_check One bytes then space_check (length out) (length (in_version Two bytes))

unfoldable pub to2_answer : (bytes out : List ℕ) → Answer ℕ
to2_answer bytes out = answer (to2_check bytes out) (length (in_version Two bytes))

unfoldable pub to2_output : (bytes out : List ℕ) → List ℕ
to2_output bytes out = job_output (to2_check bytes out) (in_version Two bytes) out

-- to version 1: the checks above, then 20
unfoldable pub to1_check : (bytes out : List ℕ) → Check
to1_check bytes out = back_check bytes then space_check (length out) (length (in_version One bytes))

unfoldable pub to1_answer : (bytes out : List ℕ) → Answer ℕ
to1_answer bytes out = answer (to1_check bytes out) (length (in_version One bytes))

unfoldable pub to1_output : (bytes out : List ℕ) → List ℕ
to1_output bytes out = job_output (to1_check bytes out) (in_version One bytes) out
