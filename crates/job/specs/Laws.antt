-- What holds of every job that was read, and that a job is determined by its note and values.
use Rattle.std.specs.Prelude.{ℕ, ◌≡◌, List, take}
use Rattle.game.specs.Network.{member_count}
use Rattle.game.specs.Tree.{Tree, network, dead_end_tree}
use Rattle.answer_forms.specs.Answer.{accepted, value}
use Rattle.answers.specs.Checks.{tree_check, proposal_check}
use Rattle.answers.specs.Level.{caps_check}
use Rattle.job_bytes.specs.Numbers.{Bytes}
use Rattle.job_bytes.specs.Format.{job_contents}
use Rattle.job_bytes.specs.declared.version.Version.TheVariants.{One}
use Rattle.job_checks.specs.JobCheck.{job_check}
use Rattle.job.specs.Reader.{Lent, JobValue, job_answer, job_lists}

-- the tree in the front of the lists, with every dead end marked
abbrev pub front_tree : ℕ → Lent → Tree
front_tree arcs l = dead_end_tree (take arcs l.parents) (take arcs l.costs)

-- the engine's checks find nothing in the front of the lists
pub record Usable (v : JobValue) (l : Lent) : Type 0 where
  pub tree : tree_check (front_tree v.arcs l) ≡ accepted
  pub members : member_count (network (front_tree v.arcs l)) ≡ v.members
  pub caps : caps_check v.members (take v.members l.caps) ≡ accepted
  pub proposals : proposal_check v.members (take v.members l.proposals) ≡ accepted

-- after a job was read, the checks of the tree, the caps and the proposal accept the front of the lists
abbrev pub ReadUsable : Type 0
ReadUsable = (bytes : List ℕ) (l : Lent) (v : JobValue) → job_answer bytes l ≡ value v → Usable v (job_lists bytes l)

-- two accepted jobs with the same note and the same values have the same bytes
abbrev pub Determined : Type 0
Determined = (a b : List ℕ) → Bytes a → Bytes b → job_check One a ≡ accepted → job_check One b ≡ accepted
    → job_contents One a ≡ job_contents One b → a ≡ b
