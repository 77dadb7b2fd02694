use Prim.Native.Nat.{◌-◌}
use mathlib.Core.Path.{◌≡◌}
use Rattle.job_form.specs.Form.{fillers_from}
use Rattle.job_form.proofs.check_rows.Given as goal

abbrev pub invariant-loop-i : goal.invariant-loop-i
invariant-loop-i l =
    fillers_from l.version l.bytes l.offset 0 l.arcs ≡ fillers_from l.version l.bytes l.offset l.i (l.arcs - l.i)
