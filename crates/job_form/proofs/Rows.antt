-- The check of the fillers, row by row: a turn, and the end.
use Prim.Native.Nat.{ℕ, suc, ◌+◌, ◌-◌, ◌<◌, ◌≤◌}
use mathlib.Core.Path.{◌≡◌, refl}
use mathlib.Core.List.{List}
use native.Mathlib.Omega.{arith}
use Rattle.answer_forms.specs.Answer.{Check, accepted, ◌then◌}
use Rattle.job_bytes.specs.declared.version.Version.{Version}
use Rattle.job_bytes.specs.Format.{filler_at}
use Rattle.job_form.specs.Form.{filler_check, fillers_from}

module _ (v : Version) (bytes : List ℕ) (offset arcs i : ℕ) where
  -- with what is found at row i
  pub rows_turn : {here : Check} {filler : ℕ} → i < arcs → filler ≡ filler_at bytes offset i
      → here ≡ filler_check v filler (i + 1)
      → fillers_from v bytes offset i (arcs - i) ≡ (here then fillers_from v bytes offset (i + 1) (arcs - (i + 1)))
  unfolding fillers_from
  rows_turn h is found = let more : arcs - i ≡ suc (arcs - (i + 1)) = omega arith in rw (more, found, is) refl

  pub rows_end : arcs ≤ i → fillers_from v bytes offset i (arcs - i) ≡ accepted
  unfolding fillers_from
  rows_end h = let none : arcs - i ≡ 0 = omega arith in rw none refl
