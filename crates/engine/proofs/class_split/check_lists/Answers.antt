use Prim.Native.Nat.{◌≤◌}
use mathlib.Core.Path.{refl, sym, ◌∙◌}
use native.Mathlib.Nat.{mul-le-mul}
use native.Mathlib.Omega.{arith}
use Rattle.limits.specs.Limits.{most_arcs}
use Rattle.std.proofs.lemmas.Result.{err_from_is_err_and}
use Rattle.answers.specs.Classes.{classed_of, classes_answer}
use Rattle.answers.proofs.Classed.{few_classes}
use Rattle.engine.proofs.ClassMembers.{members_counted, class_members_few}
use Rattle.engine.proofs.class_split.check_lists.Goals as goal

pub overflow_mul-classes : goal.overflow_mul-classes
overflow_mul-classes c =
    let w = classed_of c.args.parents.now c.args.costs.now c.args.marks.now c.args.classes in
    let ok = sym c.in_ok-check_classed.ensures in
    let counted = c.count_members-members.ensures ∙ members_counted w ok in
    let few : c.count_members-members.result ≤ most_arcs = omega (arith, counted, class_members_few w ok) in
    omega (arith, mul-le-mul (few_classes w ok).1 few)

pub returns-in_err-check_output : goal.returns-in_err-check_output
unfolding classes_answer
returns-in_err-check_output c =
    let w = classed_of c.args.parents.now c.args.costs.now c.args.marks.now c.args.classes in
    let ok = sym c.in_ok-check_classed.ensures in
    let counted = c.count_members-members.ensures ∙ members_counted w ok in
    let exit = c.from_residual-in_err-check_output in
    let passed_on = err_from_is_err_and exit.result exit.ensures.1 in
    rw (passed_on.1, passed_on.2, ok, ← counted, ← c.in_err-check_output.ensures) refl

pub returns : goal.returns
unfolding classes_answer
returns c =
    let w = classed_of c.args.parents.now c.args.costs.now c.args.marks.now c.args.classes in
    let ok = sym c.in_ok-check_classed.ensures in
    let counted = c.count_members-members.ensures ∙ members_counted w ok in
    rw (ok, ← counted, ← c.in_ok-check_output.ensures) refl
