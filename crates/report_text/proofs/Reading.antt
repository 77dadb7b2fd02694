-- The lists after a job was read, and the report that they make.
use Prim.Native.Nat.{ℕ, ◌-◌, ◌≤◌}
use mathlib.Core.Path.{◌≡◌, refl, sym, ap, ◌∙◌}
use mathlib.Core.List.{List, ◌++◌}
use native.Mathlib.Omega.{arith}
use native.Mathlib.Nat.{sub-zero}
use lib.ListN.{length, take, length-append}
use lib.Seq.{length-take-le}
use Rattle.limits.specs.Limits.{most_arcs}
use Rattle.game.specs.Network.{member_count}
use Rattle.basics.specs.Sum.{entries}
use Rattle.basics.proofs.Lists.{entries_length, entries_part}
use Rattle.game.specs.Tree.{network}
use Rattle.answer_forms.specs.Answer.{Check, accepted, value, refusal, written}
use Rattle.answers.specs.Checks.{tree_check, one_by_one}
use Rattle.answer_forms.proofs.Composed.{answered, refused_answer}
use Rattle.job_bytes.specs.Format.{job_parents, job_costs, job_caps, job_proposals}
use Rattle.job_bytes.specs.declared.version.Version.TheVariants.{One}
use Rattle.job_checks.specs.JobCheck.{room_check, marks_of, job_check}
use Rattle.job.specs.Reader.{Lent, JobValue, read_check, job_value, job_answer, job_lists}
use Rattle.job.specs.Laws.{front_tree, Usable}
use Rattle.job.proofs.Laws.{read_usable}
use Rattle.report_lines.specs.Lines.{refused_line}
use Rattle.report_text.specs.Report.{job_text, report_text}

-- the first n entries of a list are these values
pub record Front {A : Type 0} (n : ℕ) (values list : List A) : Type 0 where
  pub room : n ≤ length list
  pub taken : take (n - 0) list ≡ values

module _ {A : Type 0} where
  front : (n : ℕ) (f : ℕ → A) (before rest : List A) {check : Check} {list : List A} → check ≡ accepted
      → list ≡ written check before (entries n f ++ rest) → Front n (entries n f) list
  front n f before rest accept e =
      rw (e, accept)
      (record {
        room = omega (arith, length-append (entries n f) rest, entries_length f n);
        taken = entries_part f n rest refl;
      })

-- the fronts of the lists hold the values of an accepted job, and the engine's checks find nothing in them
pub record Fronts (bytes : List ℕ) (v : JobValue) (l : Lent) : Type 0 where
  pub check : job_check One bytes ≡ accepted
  pub parents : Front v.arcs (job_parents bytes) l.parents
  pub costs : Front v.arcs (job_costs bytes) l.costs
  pub caps : Front v.members (job_caps One bytes) l.caps
  pub proposals : Front v.members (job_proposals One bytes) l.proposals
  pub usable : Usable v l

-- each list has room for the largest tree
pub record Roomy (l : Lent) : Type 0 where
  pub parents : length l.parents ≡ most_arcs
  pub costs : length l.costs ≡ most_arcs
  pub caps : length l.caps ≡ most_arcs
  pub proposals : length l.proposals ≡ most_arcs

module _ (bytes : List ℕ) (l : Lent) (room : Roomy l) where
  checked : read_check bytes l ≡ job_check One bytes
  unfolding read_check room_check one_by_one
  checked = rw (room.parents, room.costs, room.caps, room.proposals)

  pub fronts : {v : JobValue} {after : Lent} → value v ≡ job_answer bytes l → after ≡ job_lists bytes l
      → Fronts bytes v after
  unfolding job_answer job_lists
  fronts {v} is lists =
      let read = answered (read_check bytes l) (job_value bytes) v (sym is) in
      record {
        check = sym checked ∙ read.0;
        parents = rw read.1 (front _ _ _ _ read.0 (ap (λ (l : Lent). l.parents) lists));
        costs = rw read.1 (front _ _ _ _ read.0 (ap (λ (l : Lent). l.costs) lists));
        caps = rw read.1 (front _ _ _ _ read.0 (ap (λ (l : Lent). l.caps) lists));
        proposals = rw read.1 (front _ _ _ _ read.0 (ap (λ (l : Lent). l.proposals) lists));
        usable = rw lists (read_usable bytes l v (sym is));
      }

  pub refused_report : {number place : ℕ} → refusal number place ≡ job_answer bytes l
      → report_text bytes ≡ refused_line number place
  unfolding report_text job_answer
  refused_report is = rw (← checked, refused_answer (read_check bytes l) (job_value bytes) is)

-- the parts of the lists that the code hands on
module _ {bytes : List ℕ} {v : JobValue} {l : Lent} (f : Fronts bytes v l) where
  pub front_tree_lem : tree_check (front_tree (v.arcs - 0) l) ≡ accepted
  front_tree_lem = rw (sub-zero v.arcs) f.usable.tree

  pub front_members : length (take (v.members - 0) l.proposals) ≡ member_count (network (front_tree (v.arcs - 0) l))
  front_members =
      rw (sub-zero v.arcs, sub-zero v.members)
      (length-take-le v.members l.proposals f.proposals.room ∙ sym f.usable.members)

  pub front_report :
      job_text (front_tree (v.arcs - 0) l) (take (v.members - 0) l.caps) (take (v.members - 0) l.proposals)
      ≡ report_text bytes
  unfolding report_text marks_of
  front_report = rw (f.parents.taken, f.costs.taken, f.caps.taken, f.proposals.taken, f.check)
