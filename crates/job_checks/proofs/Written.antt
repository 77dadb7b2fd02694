-- The answer and the output of an entry that writes a job, by what its checks find: its own, then 20.
use Prim.Native.Nat.{ℕ, ◌≤◌}
use mathlib.Core.Path.{◌≡◌, ap, ◌∙◌}
use mathlib.Core.List.{List, ◌++◌}
use native.Mathlib.Omega.{arith}
use borrow.Author.Tests.{ltb-false}
use lib.ListN.{length, drop}
use lib.Dec.{ltb}
use Rattle.buffer.specs.Put.{Put}
use Rattle.answer_forms.specs.Answer.{Check, Answer, value, refusal, accepted, refused, answer, ◌then◌}
use Rattle.answer_forms.proofs.Composed.{no_fault}
use Rattle.job_checks.specs.JobCheck.{space_check, job_output}

module _ (job out : List ℕ) where
  -- the answer and the output are those of a check
  abbrev pub Wrote : Check → Answer ℕ → List ℕ → Type 0
  Wrote check a after = (a ≡ answer check (length job)) × (after ≡ job_output check job out)

  abbrev pub space : Check
  space = space_check (length out) (length job)

  pub turned_away : {check : Check} {number place : ℕ} → check ≡ refused number place
      → Wrote check (refusal number place) out
  turned_away e = (rw e, rw e)

  module _ (e : space ≡ accepted) where
    pub has_space : length job ≤ length out
    has_space = ltb-false (length out) (length job) (no_fault (ltb (length out) (length job)) 20 0 e)

    pub written_out : {after : List ℕ} {end : ℕ} → Put out 0 job after end → Wrote space (value (length job)) after
    written_out {after} {end} put =
        let ends : end ≡ length job = omega (arith, put.ends) in
        (rw e, rw e (put.written ∙ ap (λ (n : ℕ). job ++ drop n out) ends))

  -- behind an entry's own checks
  pub refused_first : {first : Check} {number place : ℕ} → first ≡ refused number place
      → Wrote (first then space) (refusal number place) out
  refused_first e = (rw e, rw e)

  pub accepted_first : {first : Check} {a : Answer ℕ} {after : List ℕ} → first ≡ accepted → Wrote space a after
      → Wrote (first then space) a after
  accepted_first e w = rw e w
