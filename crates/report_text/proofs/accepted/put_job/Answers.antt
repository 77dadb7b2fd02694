use Prim.Native.Nat.{ℕ, ◌-◌, ◌≤◌}
use mathlib.Core.Path.{◌≡◌}
use mathlib.Core.List.{List, ◌++◌}
use lib.ListN.{length, take}
use Rattle.limits.specs.Limits.{most_arcs}
use Rattle.game.specs.Tree.{dead_ends}
use Rattle.basics.proofs.Lists.{zeros_length}
use Rattle.answers.proofs.Limits.{tree_limits}
use Rattle.job_checks.proofs.Marked.{marks_part}
use Rattle.report_text.proofs.accepted.put_job.Goals as goal

pub slice_bounds-marks-end : goal.slice_bounds-marks-end
slice_bounds-marks-end c =
    let few : length c.args.parents.now ≤ most_arcs = (tree_limits _ c.requires.costs_value).arcs in
    few

pub put_marked-requires : goal.put_marked-requires
put_marked-requires c =
    let few : length c.args.parents.now ≤ most_arcs = (tree_limits _ c.requires.costs_value).arcs in
    let parents : List ℕ = c.args.parents.now in
    let marks : (rest : List ℕ) → take (length parents - 0) (c.mark_dead_ends.new.out ++ rest) ≡ dead_ends parents =
    marks_part _ _ c.requires.costs_value _ (zeros_length most_arcs _ few) c.mark_dead_ends.auto.out
    c.mark_dead_ends.ensures.out_after in
    let pre = c.requires in
    record {
      marks_value = rw marks pre.costs_value;
      proposed_len = rw marks pre.proposed_len;
      in_bounds = pre.in_bounds;
    }

pub returns : goal.returns
returns c =
    let few : length c.args.parents.now ≤ most_arcs = (tree_limits _ c.requires.costs_value).arcs in
    let parents : List ℕ = c.args.parents.now in
    let marks : (rest : List ℕ) → take (length parents - 0) (c.mark_dead_ends.new.out ++ rest) ≡ dead_ends parents =
    marks_part _ _ c.requires.costs_value _ (zeros_length most_arcs _ few) c.mark_dead_ends.auto.out
    c.mark_dead_ends.ensures.out_after in
    rw marks at c.put_marked.ensures
