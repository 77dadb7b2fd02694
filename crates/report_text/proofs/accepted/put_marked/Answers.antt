use Prim.Native.Nat.{ℕ, ◌-◌, ◌≤◌}
use mathlib.Core.Path.{◌≡◌, ap, ◌∙◌}
use native.Mathlib.Omega.{arith}
use lib.ListN.{length, take, replicate}
use Rattle.limits.specs.Limits.{most_arcs}
use Rattle.game.specs.Tree.{tree_of}
use Rattle.buffer.proofs.Pieces.{put_then}
use Rattle.report_text.specs.Report.{blank}
use Rattle.report_text.proofs.Found.{few_members}
use Rattle.job_bytes.proofs.Zeros.{zeros_part}
use Rattle.report_text.proofs.accepted.put_marked.Goals as goal

pub slice_bounds-put_splits-end : goal.slice_bounds-put_splits-end
slice_bounds-put_splits-end c =
    let few : length c.args.proposed.now ≤ most_arcs = few_members _ _ c.requires.marks_value c.requires.proposed_len in
    omega (arith, few)

pub put_splits-requires : goal.put_splits-requires
put_splits-requires c =
    let few : length c.args.proposed.now ≤ most_arcs = few_members _ _ c.requires.marks_value c.requires.proposed_len in
    let blanks : take {A = ℕ} (length c.args.proposed.now - 0) (replicate most_arcs 0) ≡ blank (tree_of c.args.parents.now c.args.costs.now c.args.marks.now) =
    zeros_part most_arcs _ few ∙ ap (λ (n : ℕ). replicate n 0) c.requires.proposed_len in
    let zeros = blanks in
    let pre = c.requires in
    let most = few in
    let first = c.put_tree-next.ensures in
    let lists = pre.in_bounds in
    record {
      marks_value = pre.marks_value;
      proposed_len = pre.proposed_len;
      floors_value = zeros;
      vertices_value = zeros;
      by_arc_value = zeros;
      shares_value = zeros;
      proposed_in_bounds = omega (arith, most, lists, first.put.same_length, first.upper_bound);
    }

pub returns : goal.returns
returns c = put_then c.put_tree-next.ensures.put c.put_splits.ensures
