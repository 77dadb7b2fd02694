-- What it means that a job is accepted, and that such a job is made of what it holds.
use Prim.Native.Nat.{ℕ, ◌≤◌}
use mathlib.Core.Path.{◌≡◌, sym, ap, ◌∙◌}
use mathlib.Core.Bool.{not}
use mathlib.Core.List.{List}
use native.Mathlib.Omega.{arith}
use lib.Dec.{eqb}
use Rattle.basics.proofs.Lists.{entries_length}
use Rattle.answer_forms.specs.Answer.{accepted, fault, ◌then◌}
use Rattle.limits.specs.Limits.{most_arcs}
use Rattle.answers.specs.Checks.{tree_check, proposal_check}
use Rattle.answers.specs.Level.{caps_check, floors_check}
use Rattle.answer_forms.proofs.Composed.{first_accepted, second_accepted, no_fault}
use Rattle.answers.proofs.Limits.{tree_limits}
use Rattle.job_bytes.specs.Numbers.{Bytes}
use Rattle.job_bytes.specs.JobBytes.{job_bytes}
use Rattle.job_bytes.specs.Format.{arc_offset, job_arcs, job_members, parent_at, job_caps, job_proposals, job_floors, job_held}
use Rattle.job_bytes.specs.declared.version.Version.{Version}
use Rattle.job_form.specs.Form.{form_check, fillers_check}
use Rattle.job_form.proofs.FormAccepted.{alike}
use Rattle.job_form.proofs.WrittenAgain.{written_again}
use Rattle.job_checks.specs.JobCheck.{job_tree, tree_members, count_check, shares_check, values_check, job_check}

-- 15
pub count_accepted : (rows members : ℕ) → fault (not (eqb rows members)) 15 0 ≡ accepted → rows ≡ members
count_accepted rows members e = alike rows members (no_fault (not (eqb rows members)) 15 0 e)

-- a job on which no check finds fault
pub record JobAccepted (v : Version) (bytes : List ℕ) : Type 0 where
  pub form : form_check v bytes ≡ accepted
  pub fillers : fillers_check v bytes ≡ accepted
  pub tree : tree_check (job_tree v bytes) ≡ accepted
  pub rows : job_members bytes ≡ tree_members v bytes
  pub caps : caps_check (tree_members v bytes) (job_caps v bytes) ≡ accepted
  pub proposals : proposal_check (tree_members v bytes) (job_proposals v bytes) ≡ accepted
  pub floors : caps_check (tree_members v bytes) (job_floors v bytes) ≡ accepted
  pub within : floors_check (tree_members v bytes) (job_caps v bytes) (job_floors v bytes) ≡ accepted

pub job_accepted : (v : Version) (bytes : List ℕ) → job_check v bytes ≡ accepted → JobAccepted v bytes
unfolding job_check values_check shares_check
job_accepted v bytes e =
    let n = tree_members v bytes in
    let caps = caps_check n (job_caps v bytes) in
    let proposals = proposal_check n (job_proposals v bytes) in
    let floors = caps_check n (job_floors v bytes) in
    let within = floors_check n (job_caps v bytes) (job_floors v bytes) in
    let tree = tree_check (job_tree v bytes) in
    let counts = count_check v bytes in
    let shares = shares_check v bytes in
    let after_form = second_accepted (form_check v bytes) (fillers_check v bytes then values_check v bytes) e in
    let values = second_accepted (fillers_check v bytes) (values_check v bytes) after_form in
    let after_tree = second_accepted tree (counts then shares) values in
    let after_count = second_accepted counts shares after_tree in
    let after_caps = second_accepted caps (proposals then floors then within) after_count in
    let after_proposals = second_accepted proposals (floors then within) after_caps in
    record {
      form = first_accepted (form_check v bytes) (fillers_check v bytes then values_check v bytes) e;
      fillers = first_accepted (fillers_check v bytes) (values_check v bytes) after_form;
      tree = first_accepted tree (counts then shares) values;
      rows = count_accepted (job_members bytes) n (first_accepted counts shares after_tree);
      caps = first_accepted caps (proposals then floors then within) after_count;
      proposals = first_accepted proposals (floors then within) after_caps;
      floors = first_accepted floors within after_proposals;
      within = second_accepted floors within after_proposals;
    }

module _ (v : Version) (bytes : List ℕ) (ok : JobAccepted v bytes) where
  pub few_arcs : job_arcs bytes ≤ most_arcs
  few_arcs =
      let rows = entries_length (parent_at bytes (arc_offset bytes)) (job_arcs bytes) in
      omega (arith, (tree_limits (job_tree v bytes) ok.tree).arcs, rows)

  pub few_members : job_members bytes ≤ most_arcs
  few_members = omega (arith, (tree_limits (job_tree v bytes) ok.tree).members, ok.rows)

-- a job that was accepted is made of what it holds
pub made : (v : Version) (bytes : List ℕ) → Bytes bytes → job_check v bytes ≡ accepted
    → job_bytes v (job_held v bytes) ≡ bytes
made v bytes b e = written_again v bytes b (job_accepted v bytes e).form

pub determined : (v : Version) (a b : List ℕ) → Bytes a → Bytes b → job_check v a ≡ accepted → job_check v b ≡ accepted
    → job_held v a ≡ job_held v b → a ≡ b
determined v a b as_bytes bs_bytes ea eb same =
    sym (made v a as_bytes ea) ∙ ap (job_bytes v) same ∙ made v b bs_bytes eb
