use mathlib.Core.Path.{sym}
use native.Mathlib.Omega.{arith}
use Rattle.job.proofs.WriterAnswered.{accepted_length, length_small}
use Rattle.job.proofs.writer.job_length.Goals as goal

pub overflow_mul-result : goal.overflow_mul-result
overflow_mul-result c = omega (arith, length_small _ (sym c.in_ok-check_contents.ensures))

pub overflow_add-result : goal.overflow_add-result
overflow_add-result c = omega (arith, length_small _ (sym c.in_ok-check_contents.ensures))

pub overflow_add-result-2 : goal.overflow_add-result-2
overflow_add-result-2 c = omega (arith, length_small _ (sym c.in_ok-check_contents.ensures))

pub overflow_add-result-3 : goal.overflow_add-result-3
overflow_add-result-3 c = omega (arith, length_small _ (sym c.in_ok-check_contents.ensures))

pub returns : goal.returns
returns c = accepted_length _ (sym c.in_ok-check_contents.ensures)
