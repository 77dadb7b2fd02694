use Prim.Native.Nat.{pred}
use mathlib.Core.Path.{◌≡◌}
use lib.Dec.{ltb}
use Rattle.game.specs.Tree.{of_arc}
use Rattle.answer_forms.specs.Answer.{accepted, fault}
use Rattle.answers.specs.Checks.{one_by_one}
use Rattle.job2.proofs.back.check_each.Given as goal

abbrev pub invariant-loop-j : goal.invariant-loop-j
invariant-loop-j l = one_by_one (λ i. fault (ltb 0 (of_arc l.floors i)) 30 (pred i)) l.j ≡ accepted
