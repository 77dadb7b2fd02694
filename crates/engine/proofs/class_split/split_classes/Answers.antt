use mathlib.Core.Path.{◌∙◌}
use native.Mathlib.Omega.{arith}
use Rattle.basics.proofs.Lists.{zeros_length}
use Rattle.limits.specs.Limits.{most_arcs}
use Rattle.answers.specs.Classes.{classed_of, classes_answer, classes_list, classes_totals}
use Rattle.answers.proofs.Accepted.{length_accepted}
use Rattle.engine.proofs.ClassMembers.{class_members_few, classes_taken}
use Rattle.engine.proofs.class_split.split_classes.Goals as goal

pub slice_bounds-vertices-end : goal.slice_bounds-vertices-end
slice_bounds-vertices-end c =
    let w = classed_of c.args.parents.now c.args.costs.now c.args.marks.now c.args.classes in
    let taken = classes_taken w c.args.out.now c.in-Ok.ensures in
    omega (arith, taken.counted, class_members_few w taken.classed)

pub split_accepted-requires : goal.split_accepted-requires
split_accepted-requires c =
    let w = classed_of c.args.parents.now c.args.costs.now c.args.marks.now c.args.classes in
    let taken = classes_taken w c.args.out.now c.in-Ok.ensures in
    let few = class_members_few w taken.classed in
    record {
      classes_value = taken.classed;
      vertices_len = zeros_length most_arcs c.in-Ok.members (omega (arith, taken.counted, few)) ∙ taken.counted;
      out_len = length_accepted _ _ taken.sized;
    }

pub returns-in-Ok : goal.returns-in-Ok
unfolding classes_answer classes_totals classes_list
returns-in-Ok c =
    let w = classed_of c.args.parents.now c.args.costs.now c.args.marks.now c.args.classes in
    let taken = classes_taken w c.args.out.now c.in-Ok.ensures in
    let found = c.split_accepted.ensures in
    rw (taken.classed, taken.sized)
    (record { answer_value = found.answer_value; totals_value = found.totals_value; out_after = found.out_after })
