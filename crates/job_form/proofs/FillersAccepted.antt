-- What it means that the fillers of a job are accepted.
use Prim.Native.Nat.{ℕ, zero, suc, ◌+◌, ◌<◌, ◌≤◌}
use mathlib.Core.Path.{◌≡◌}
use mathlib.Core.Bool.{not}
use mathlib.Core.List.{List}
use native.Mathlib.Omega.{arith}
use native.Mathlib.Nat.{add-zero, zero-add}
use borrow.Author.Tests.{ltb-false}
use lib.ListN.{get_or}
use lib.Dec.{eqb, ltb}
use Rattle.basics.proofs.Lists.{entries_at}
use Rattle.answer_forms.specs.Answer.{accepted}
use Rattle.answer_forms.proofs.Composed.{first_accepted, second_accepted, no_fault}
use Rattle.job_bytes.specs.Format.{arc_offset, job_arcs, filler_at, job_fillers}
use Rattle.job_bytes.specs.declared.version.Version.{Version}
use Rattle.job_bytes.specs.declared.version.Version.TheVariants.{One, Two}
use Rattle.job_form.specs.Form.{filler_check, fillers_from, fillers_check}
use Rattle.job_form.proofs.FormAccepted.{alike}

each_accepted : (v : Version) (bytes : List ℕ) (offset rows i : ℕ) → fillers_from v bytes offset i rows ≡ accepted
    → (j : ℕ) → j < rows → filler_check v (filler_at bytes offset (i + j)) (i + j + 1) ≡ accepted
unfolding fillers_from
each_accepted v bytes offset zero i e j h = absurd (omega arith)
each_accepted v bytes offset (suc rows) i e zero h =
    let here = filler_check v (filler_at bytes offset i) (i + 1) in
    rw (add-zero i) (first_accepted here (fillers_from v bytes offset (i + 1) rows) e)
each_accepted v bytes offset (suc rows) i e (suc j) h =
    let here = filler_check v (filler_at bytes offset i) (i + 1) in
    let rest = second_accepted here (fillers_from v bytes offset (i + 1) rows) e in
    let next : i + suc j ≡ i + 1 + j = omega arith in
    rw next (each_accepted v bytes offset rows (i + 1) rest j (omega arith))

-- each entry of the list of fillers is accepted
pub filler_accepted : (v : Version) (bytes : List ℕ) → fillers_check v bytes ≡ accepted
    → (i : ℕ) → i < job_arcs bytes → filler_check v (get_or (job_fillers bytes) i 0) (i + 1) ≡ accepted
filler_accepted v bytes e i h =
    rw (entries_at (filler_at bytes (arc_offset bytes)) 0 (job_arcs bytes) i h)
    (rw zero-add at (each_accepted v bytes (arc_offset bytes) (job_arcs bytes) 0 e i h))

-- in version 1 it is 0, in version 2 at most 1
pub filler_zero : (filler arc : ℕ) → filler_check One filler arc ≡ accepted → filler ≡ 0
unfolding filler_check
filler_zero filler arc e = alike filler 0 (no_fault (not (eqb filler 0)) 14 arc e)

pub mark_small : (mark arc : ℕ) → filler_check Two mark arc ≡ accepted → mark ≤ 1
unfolding filler_check
mark_small mark arc e = ltb-false 1 mark (no_fault (ltb 1 mark) 16 arc e)
