-- What the checks hand on to one another, and to their callers.
use Rattle.std.specs.Prelude.{ℕ, ◌≤◌, List}
use Rattle.job_bytes.specs.Format.{job_arcs, job_members}

-- lists of these lengths have room for a job's values
pub record Room (bytes : List ℕ) (parents costs caps proposals : ℕ) : Type 0 where
  pub for_parents : job_arcs bytes ≤ parents
  pub for_costs : job_arcs bytes ≤ costs
  pub for_caps : job_members bytes ≤ caps
  pub for_proposals : job_members bytes ≤ proposals
