-- What one version accepts the other refuses.
use Prim.Native.Nat.{ℕ}
use mathlib.Core.Path.{◌≡◌, refl}
use mathlib.Core.Bool.{Bool, true, false, cond}
use mathlib.Core.List.{List}
use native.Mathlib.Omega.{arith}
use borrow.Author.Tests.{le-ltb}
use lib.ListN.{length}
use lib.Dec.{ltb}
use Rattle.answer_forms.specs.Answer.{Check, accepted, refused, fault, ◌then◌}
use Rattle.answer_forms.proofs.Composed.{second_accepted, answered}
use Rattle.job_bytes.specs.Versions.{version_number}
use Rattle.job_bytes.specs.declared.version.Version.TheVariants.{One, Two}
use Rattle.job_form.specs.Form.{fewest_bytes, most_bytes_of, layout_check, form_check, fillers_check}
use Rattle.job_form.proofs.FormAccepted.{form_signature, form_layout}
use Rattle.job_checks.specs.JobCheck.{job_check, values_check}
use Rattle.job_checks.proofs.Accepted.{job_accepted}
use Rattle.job.specs.Reader.{room_in, read_check, job_value, job_answer}
use Rattle.job2.specs.Reader.{room2_in, read2_check, job2_answer}
use Rattle.job2.specs.Laws.{RefusedBy1, RefusedBy2}

-- 11, then 12
by_size : (long : Bool) (layout rest : Check)
    → ((fault long 11 0 then refused 12 0 then layout) then rest) ≡ refused (cond long 11 12) 0
by_size true layout rest = refl
by_size false layout rest = refl

refused1 : (bytes : List ℕ) → job_check Two bytes ≡ accepted
    → job_check One bytes ≡ refused (cond (ltb (most_bytes_of One) (length bytes)) 11 12) 0
unfolding job_check form_check version_number
refused1 bytes e =
    let ok = job_accepted Two bytes e in
    let layout = form_layout Two bytes ok.form in
    rw (le-ltb (length bytes) fewest_bytes layout.long, (form_signature Two bytes ok.form).version_is)
    (by_size (ltb (most_bytes_of One) (length bytes)) (layout_check One bytes)
    (fillers_check One bytes then values_check One bytes))

refused2 : (bytes : List ℕ) → job_check One bytes ≡ accepted → job_check Two bytes ≡ refused 12 0
unfolding job_check form_check version_number most_bytes_of
refused2 bytes e =
    let ok = job_accepted One bytes e in
    let layout = form_layout One bytes ok.form in
    let long : ltb (length bytes) fewest_bytes ≡ false = le-ltb (length bytes) fewest_bytes layout.long in
    let short : ltb (most_bytes_of Two) (length bytes) ≡ false =
    le-ltb (most_bytes_of Two) (length bytes) (omega (arith, layout.short)) in
    rw (long, short, (form_signature One bytes ok.form).version_is)

pub refused_by_1 : RefusedBy1
unfolding job2_answer read2_check job_answer read_check
refused_by_1 bytes k v e l room =
    let read = answered (read2_check bytes k) (job_value bytes) v e in
    let job = second_accepted (room2_in k) (job_check Two bytes) read.0 in
    rw (room, refused1 bytes job)

pub refused_by_2 : RefusedBy2
unfolding job_answer read_check job2_answer read2_check
refused_by_2 bytes l v e k room =
    let read = answered (read_check bytes l) (job_value bytes) v e in
    let job = second_accepted (room_in l) (job_check One bytes) read.0 in
    rw (room, refused2 bytes job)
