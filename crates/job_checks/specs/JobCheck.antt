-- The checks on a job's bytes in a version, with the numbers, places and order of the specification, §7.
use Rattle.std.specs.Prelude.{ℕ, not, List, ◌++◌, length, drop, ℤ, eqb, ltb}
use Rattle.limits.specs.Limits.{most_arcs}
use Rattle.game.specs.Network.{member_count}
use Rattle.game.specs.Tree.{Tree, tree_of, network, of_arc, dead_ends}
use Rattle.answer_forms.specs.Answer.{Check, fault, ◌then◌, written}
use Rattle.answers.specs.Checks.{one_by_one, tree_check, proposal_check}
use Rattle.answers.specs.Level.{caps_check, floors_check}
use Rattle.job_bytes.specs.Format.{job_members, job_parents, job_fillers, job_costs, job_caps, job_proposals, job_floors}
use Rattle.job_bytes.specs.declared.version.Version.{Version}
use Rattle.job_bytes.specs.declared.version.Version.TheVariants.{One, Two}
use Rattle.job_form.specs.Form.{form_check, fillers_check}

-- 10: of lists of these lengths one has fewer than 1,023 entries
unfoldable pub room_check : List ℕ → Check
room_check lengths = one_by_one (λ i. fault (ltb (of_arc lengths i) most_arcs) 10 0) (length lengths)

-- the marks of a tree, by its parents and fillers: in version 1 every dead end is marked
unfoldable pub marks_of : Version → (parents fillers : List ℕ) → List ℕ
marks_of One parents fillers = dead_ends parents
marks_of Two parents fillers = fillers

-- the tree that the arc rows hold, and its number of members
abbrev pub job_tree : Version → List ℕ → Tree
job_tree v bytes = tree_of (job_parents bytes) (job_costs bytes) (marks_of v (job_parents bytes) (job_fillers bytes))

abbrev pub tree_members : Version → List ℕ → ℕ
tree_members v bytes = member_count (network (job_tree v bytes))

-- 15
abbrev pub count_check : Version → List ℕ → Check
count_check v bytes = fault (not (eqb (job_members bytes) (tree_members v bytes))) 15 0

-- the caps, the proposals, then the floors, of this many members, and 27
abbrev pub shares_of : ℕ → List ℕ → List ℤ → List ℕ → Check
shares_of members caps proposals floors =
    caps_check members caps
    then proposal_check members proposals
    then caps_check members floors
    then floors_check members caps floors

-- 7, then 27: after 15 there is one of each for every member of the tree, so 6 does not occur; nor do 7 on floors and
-- 27 in version 1, whose floors are 0
unfoldable pub shares_check : Version → List ℕ → Check
shares_check v bytes =
    shares_of (tree_members v bytes) (job_caps v bytes) (job_proposals v bytes) (job_floors v bytes)

-- 1, 3, 4, 17 and 18, then 15, then 7 and 27. 2 does not occur: a row holds a parent, a filler and a cost; nor does 16,
-- which comes before; nor do 17 and 18 in version 1
unfoldable pub values_check : Version → List ℕ → Check
values_check v bytes = tree_check (job_tree v bytes) then count_check v bytes then shares_check v bytes

-- 11 to 13, 14 in version 1 or 16 in version 2, then the values
unfoldable pub job_check : Version → List ℕ → Check
job_check v bytes = form_check v bytes then fillers_check v bytes then values_check v bytes

-- 20: an output is shorter than the job
abbrev pub space_check : (space size : ℕ) → Check
space_check space size = fault (ltb space size) 20 0

-- an output afterwards: the job in front, then the bytes as they came
abbrev pub job_output : Check → (job out : List ℕ) → List ℕ
job_output check job out = written check out (job ++ drop (length job) out)
