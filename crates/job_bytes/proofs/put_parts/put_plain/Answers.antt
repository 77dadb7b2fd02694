use Rattle.std.proofs.Common.{ℕ}
use Rattle.std.proofs.lemmas.List.{take-replicate}
use Rattle.limits.specs.Limits.{most_arcs}
use Rattle.job_bytes.proofs.put_parts.put_plain.Goals as goal

pub returns : goal.returns
returns c = rw (take-replicate {X = ℕ} _ most_arcs 0 c.requires.parents_len_bound) at c.put_job.ensures
