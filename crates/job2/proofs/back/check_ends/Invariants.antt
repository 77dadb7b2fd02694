use mathlib.Core.Path.{◌≡◌}
use mathlib.Core.Bool.{◌&&◌, not}
use Rattle.game.specs.Tree.{marked}
use Rattle.answer_forms.specs.Answer.{accepted, fault}
use Rattle.answers.specs.Checks.{one_by_one}
use Rattle.job2.proofs.back.check_ends.Given as goal

abbrev pub invariant-loop-i : goal.invariant-loop-i
invariant-loop-i l =
    one_by_one (λ k. fault (marked l.ends k && not (marked l.marks k)) 29 k) l.i ≡ accepted
