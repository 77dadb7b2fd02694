use mathlib.Core.Path.{◌≡◌}
use Rattle.answer_forms.specs.Answer.{accepted}
use Rattle.answers.specs.Checks.{one_by_one, arc_check}
use Rattle.checks.proofs.plain.check_arcs.Given as goal

abbrev pub invariant-loop-i : goal.invariant-loop-i
invariant-loop-i l = one_by_one (arc_check l.parents l.costs) l.i ≡ accepted
