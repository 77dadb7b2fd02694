use mathlib.Core.Path.{◌≡◌}
use lib.Dec.{ltb}
use Rattle.limits.specs.Limits.{most_arcs}
use Rattle.game.specs.Tree.{of_arc}
use Rattle.answer_forms.specs.Answer.{accepted, fault}
use Rattle.answers.specs.Checks.{one_by_one}
use Rattle.job_checks.proofs.room.check_room.Given as goal

abbrev pub invariant-loop-length : goal.invariant-loop-length
invariant-loop-length l =
    one_by_one (λ k. fault (ltb (of_arc l.lengths k) most_arcs) 10 0) l.length-index ≡ accepted
