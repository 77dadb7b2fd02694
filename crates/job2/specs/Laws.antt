-- What holds of jobs of version 2, and of conversions.
use Rattle.std.specs.Prelude.{ℕ, ◌≤◌, ◌≡◌, cond, List, ◌++◌, length, take, drop, replicate, ltb}
use Rattle.game.specs.Network.{member_count}
use Rattle.game.specs.Tree.{Tree, tree_of, network, dead_ends}
use Rattle.answer_forms.specs.Answer.{accepted, value, refusal}
use Rattle.answers.specs.Checks.{tree_check, proposal_check}
use Rattle.answers.specs.Level.{limits_check}
use Rattle.job_bytes.specs.Numbers.{Bytes}
use Rattle.job_bytes.specs.Format.{job_held}
use Rattle.job_bytes.specs.declared.version.Version.TheVariants.{One, Two}
use Rattle.job_form.specs.Form.{most_bytes_of}
use Rattle.job_checks.specs.JobCheck.{job_check}
use Rattle.job.specs.Reader.{Lent, room_in, JobValue, job_value, job_answer, job_lists}
use Rattle.job2.specs.Reader.{Lent2, room2_in, job2_answer, job2_lists}
use Rattle.job2.specs.Converter.{to2_answer, to2_output, to1_answer, to1_output}

-- the tree in the front of the lists, with its marks
abbrev pub marked_tree : ℕ → Lent2 → Tree
marked_tree arcs l = tree_of (take arcs l.parents) (take arcs l.costs) (take arcs l.marks)

-- the engine's checks find nothing in the front of the lists: 1 to 4 and 16 to 18; 6, 7 and 27 on caps and floors; 6
-- and 7 on proposals
pub record Usable2 (v : JobValue) (l : Lent2) : Type 0 where
  pub tree : tree_check (marked_tree v.arcs l) ≡ accepted
  pub members : member_count (network (marked_tree v.arcs l)) ≡ v.members
  pub limits : limits_check v.members (take v.members l.caps) (take v.members l.floors) ≡ accepted
  pub proposals : proposal_check v.members (take v.members l.proposals) ≡ accepted

abbrev pub ReadUsable2 : Type 0
ReadUsable2 = (bytes : List ℕ) (l : Lent2) (v : JobValue) → job2_answer bytes l ≡ value v
    → Usable2 v (job2_lists bytes l)

-- two accepted jobs that hold the same have the same bytes
abbrev pub Determined2 : Type 0
Determined2 = (a b : List ℕ) → Bytes a → Bytes b → job_check Two a ≡ accepted → job_check Two b ≡ accepted
    → job_held Two a ≡ job_held Two b → a ≡ b

-- what the reader of version 2 accepts, that of version 1 refuses by 11 where it is too long for version 1, else by 12
abbrev pub RefusedBy1 : Type 0
RefusedBy1 = (bytes : List ℕ) (k : Lent2) (v : JobValue) → job2_answer bytes k ≡ value v
    → (l : Lent) → room_in l ≡ accepted
    → job_answer bytes l ≡ refusal (cond (ltb (most_bytes_of One) (length bytes)) 11 12) 0

-- what the reader of version 1 accepts, that of version 2 refuses by 12
abbrev pub RefusedBy2 : Type 0
RefusedBy2 = (bytes : List ℕ) (l : Lent) (v : JobValue) → job_answer bytes l ≡ value v
    → (k : Lent2) → room2_in k ≡ accepted → job2_answer bytes k ≡ refusal 12 0

-- a job of version 1 and one of version 2 are read to the same note, parents, costs, caps and proposals, the latter
-- with every dead end marked and floors of 0
pub record Alike (one two : List ℕ) (l : Lent) (k : Lent2) (v : JobValue) : Type 0 where
  pub one_read : job_answer one l ≡ value v
  pub two_read : job2_answer two k ≡ value v
  pub note : take v.note one ≡ take v.note two
  pub parents : take v.arcs (job_lists one l).parents ≡ take v.arcs (job2_lists two k).parents
  pub costs : take v.arcs (job_lists one l).costs ≡ take v.arcs (job2_lists two k).costs
  pub caps : take v.members (job_lists one l).caps ≡ take v.members (job2_lists two k).caps
  pub proposals : take v.members (job_lists one l).proposals ≡ take v.members (job2_lists two k).proposals
  pub marks : take v.arcs (job2_lists two k).marks ≡ dead_ends (take v.arcs (job2_lists two k).parents)
  pub floors : take v.members (job2_lists two k).floors ≡ replicate v.members 0

-- a converted job, cut off at its length, with any lists that 10 accepts
abbrev pub To2Alike : Type 0
To2Alike = (bytes out : List ℕ) (n : ℕ) → to2_answer bytes out ≡ value n
    → (l : Lent) (k : Lent2) → room_in l ≡ accepted → room2_in k ≡ accepted
    → Alike bytes (take n (to2_output bytes out)) l k (job_value bytes)

abbrev pub To1Alike : Type 0
To1Alike = (bytes out : List ℕ) (n : ℕ) → to1_answer bytes out ≡ value n
    → (l : Lent) (k : Lent2) → room_in l ≡ accepted → room2_in k ≡ accepted
    → Alike (take n (to1_output bytes out)) bytes l k (job_value bytes)

-- there and back gives the same bytes, in any output that has room for them
abbrev pub To2AndBack : Type 0
To2AndBack = (bytes out back : List ℕ) (n : ℕ) → Bytes bytes → to2_answer bytes out ≡ value n
    → length bytes ≤ length back
    → (to1_answer (take n (to2_output bytes out)) back ≡ value (length bytes))
    × (to1_output (take n (to2_output bytes out)) back ≡ bytes ++ drop (length bytes) back)

abbrev pub To1AndBack : Type 0
To1AndBack = (bytes out back : List ℕ) (n : ℕ) → Bytes bytes → to1_answer bytes out ≡ value n
    → length bytes ≤ length back
    → (to2_answer (take n (to1_output bytes out)) back ≡ value (length bytes))
    × (to2_output (take n (to1_output bytes out)) back ≡ bytes ++ drop (length bytes) back)
