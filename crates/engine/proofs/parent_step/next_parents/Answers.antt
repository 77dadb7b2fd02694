use Prim.Native.Nat.{ℕ}
use mathlib.Core.Path.{◌≡◌, sym, ap, ◌∙◌}
use mathlib.Core.Bool.{Bool, true, false, cond}
use mathlib.Core.List.{List}
use mathlib.Core.Option.{Option, none, some, Option-elim}
use native.Mathlib.Omega.{arith}
use Rattle.answer_forms.specs.Answer.{accepted, value}
use Rattle.answers.specs.Checks.{small_check}
use Rattle.answers.specs.ParentLists.{next, end, step_answer, step_list}
use Rattle.answers.proofs.ParentListsLaws.{small_few, small_rooted}
use Rattle.engine.proofs.parent_step.next_parents.Goals as goal

-- whether a list follows, as the step says it and as the answer
said : (o : Option (List ℕ)) {b : Bool} → b ≡ Option-elim o false (λ _. true)
    → cond b next end ≡ Option-elim o end (λ _. next)
unfolding Option-elim
said none e = ap (λ (b : Bool). cond b next end) e
said (some l) e = ap (λ (b : Bool). cond b next end) e

pub step-requires : goal.step-requires
step-requires c =
    let accepted_list : small_check c.args.parents.now ≡ accepted =
    sym c.in_ok-check_small.ensures in
    let ok = accepted_list in
    record { few = omega (arith, small_few _ ok); rising = small_rooted _ ok }

pub returns-then-step : goal.returns-then-step
unfolding step_answer step_list
returns-then-step c =
    let accepted_list : small_check c.args.parents.now ≡ accepted =
    sym c.in_ok-check_small.ensures in
    let ok = accepted_list in
    let is-next = sym (ap (λ (b : Bool). cond b next end) c.if-step.true) ∙ said _ c.step.ensures.value in
    record { result_value = rw ok (ap value is-next); parents_after = rw ok c.step.ensures.parents_after }

pub returns-else-step : goal.returns-else-step
unfolding step_answer step_list
returns-else-step c =
    let accepted_list : small_check c.args.parents.now ≡ accepted =
    sym c.in_ok-check_small.ensures in
    let ok = accepted_list in
    let is-end = sym (ap (λ (b : Bool). cond b next end) c.if-step.false) ∙ said _ c.step.ensures.value in
    record { result_value = rw ok (ap value is-end); parents_after = rw ok c.step.ensures.parents_after }
