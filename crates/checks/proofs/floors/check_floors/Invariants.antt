use mathlib.Core.Path.{◌≡◌}
use Rattle.answer_forms.specs.Answer.{accepted}
use Rattle.answers.specs.Level.{floors_check}
use Rattle.checks.proofs.floors.check_floors.Given as goal

abbrev pub invariant-loop-j : goal.invariant-loop-j
invariant-loop-j l = floors_check l.j l.caps l.floors ≡ accepted
