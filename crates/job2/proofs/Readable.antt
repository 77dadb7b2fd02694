-- What the code that reads an accepted job's values asks for.
use Prim.Native.Nat.{ℕ, ◌+◌, ◌*◌, ◌≤◌}
use mathlib.Core.Path.{◌≡◌, sym, ◌∙◌}
use mathlib.Core.List.{List}
use native.Mathlib.Omega.{arith}
use lib.ListN.{length, take}
use lib.Seq.{length-take-le}
use Rattle.basics.proofs.Lists.{entries_length}
use Rattle.limits.specs.Limits.{most_arcs}
use Rattle.game.specs.Tree.{dead_end_tree}
use Rattle.answer_forms.specs.Answer.{accepted}
use Rattle.answers.specs.Checks.{tree_check}
use Rattle.job_bytes.specs.Format.{arc_offset, member_offset, job_arcs, job_members, job_parents, job_fillers, job_costs}
use Rattle.job_bytes.specs.Format.{parent_at, filler_at, cost_at, cap_at, proposal_at, job_caps, job_proposals}
use Rattle.job_bytes.specs.declared.version.Version.{Version}
use Rattle.job_form.specs.Inner.{Layout}
use Rattle.job_form.proofs.FormAccepted.{form_layout}
use Rattle.job_checks.specs.Inner.{Room}
use Rattle.job_checks.specs.JobCheck.{job_tree, job_check}
use Rattle.job_checks.proofs.Accepted.{job_accepted, few_arcs, few_members}
use Rattle.job_checks.proofs.Marked.{dead_ends_too}

pub record Readable (v : Version) (bytes : List ℕ) : Type 0 where
  pub layout : Layout v bytes
  pub room : Room bytes most_arcs most_arcs most_arcs most_arcs
  pub arcs_within : arc_offset bytes + 8 * job_arcs bytes ≤ length bytes
  pub arcs : length (job_parents bytes) ≡ job_arcs bytes
  pub filled : length (job_fillers bytes) ≡ length (job_parents bytes)
  pub costed : length (job_costs bytes) ≡ length (job_parents bytes)
  pub members : length (job_caps v bytes) ≡ job_members bytes
  pub proposed : length (job_proposals v bytes) ≡ length (job_caps v bytes)
  pub noted : length (take (arc_offset bytes) bytes) ≡ arc_offset bytes
  pub tree : tree_check (dead_end_tree (job_parents bytes) (job_costs bytes)) ≡ accepted

pub readable : (v : Version) (bytes : List ℕ) → job_check v bytes ≡ accepted → Readable v bytes
readable v bytes e =
    let ok = job_accepted v bytes e in
    let l = form_layout v bytes ok.form in
    let m = few_arcs v bytes ok in
    let n = few_members v bytes ok in
    let o = arc_offset bytes in
    let p = member_offset bytes in
    let parents = entries_length (parent_at bytes o) (job_arcs bytes) in
    let caps = entries_length (cap_at v bytes p) (job_members bytes) in
    record {
      layout = l;
      room = record { for_parents = m; for_costs = m; for_caps = n; for_proposals = n };
      arcs_within = omega (arith, l.arcs_end, l.members_end);
      arcs = parents;
      filled = entries_length (filler_at bytes o) (job_arcs bytes) ∙ sym parents;
      costed = entries_length (cost_at bytes o) (job_arcs bytes) ∙ sym parents;
      members = caps;
      proposed = entries_length (proposal_at v bytes p) (job_members bytes) ∙ sym caps;
      noted = length-take-le o bytes (omega (arith, l.arcs_end, l.members_end));
      tree = dead_ends_too (job_tree v bytes) ok.tree;
    }
