-- What the functions of the conversions ask of one another.
use Rattle.std.specs.Prelude.{ℕ, ◌+◌, ◌*◌, ◌≤◌, ◌≡◌, length}
use Rattle.limits.specs.Limits.{most_arcs}
use Rattle.game.specs.Tree.{dead_end_tree}
use Rattle.answer_forms.specs.Answer.{accepted}
use Rattle.answers.specs.Checks.{tree_check}
use Rattle.job_bytes.specs.Versions.{member_width}
use Rattle.job_bytes.specs.JobBytes.{Contents}
use Rattle.job_bytes.specs.declared.version.Version.{Version}

-- contents that can be written in a version to an output of so many bytes
pub record Ready (v : Version) (c : Contents) (space : ℕ) : Type 0 where
  pub tree : tree_check (dead_end_tree c.parents c.costs) ≡ accepted
  pub few : length c.parents ≤ most_arcs
  pub costed : length c.costs ≡ length c.parents
  pub proposed : length c.proposals ≡ length c.caps
  pub fits : length c.note + 8 * length c.parents + member_width v * length c.caps + 16 ≤ space
