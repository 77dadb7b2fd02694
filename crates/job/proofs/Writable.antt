-- What it means that a note and lists are accepted, and that the job made of them is.
use Prim.Native.Nat.{◌≤◌}
use mathlib.Core.Path.{◌≡◌, sym, ◌∙◌}
use borrow.Author.Tests.{ltb-false, le-ltb}
use lib.ListN.{length, replicate}
use lib.Dec.{ltb}
use Rattle.game.specs.Tree.{dead_end_tree}
use Rattle.answer_forms.specs.Answer.{accepted, ◌then◌}
use Rattle.answer_forms.proofs.Composed.{first_accepted, second_accepted, no_fault}
use Rattle.answers.specs.Checks.{tree_check, plain_check, proposal_check}
use Rattle.answers.specs.Level.{caps_check}
use Rattle.answers.proofs.DeadEnds.{plain_check_lem}
use Rattle.job_bytes.specs.JobBytes.{Contents}
use Rattle.job_form.specs.Form.{longest_note}
use Rattle.job_bytes.specs.declared.version.Version.TheVariants.{One}
use Rattle.job_checks.proofs.Made.{Fillable}
use Rattle.job_checks.proofs.Plain.{plain_fillable}
use Rattle.job.specs.Writer.{members_of, note_check, contents_check}

-- contents on which no check finds fault
pub record Writable (c : Contents) : Type 0 where
  pub tree : tree_check (dead_end_tree c.parents c.costs) ≡ accepted
  pub caps : caps_check (members_of c) c.caps ≡ accepted
  pub proposals : proposal_check (members_of c) c.proposals ≡ accepted
  pub note : length c.note ≤ longest_note

pub writable : (c : Contents) → contents_check c ≡ accepted → Writable c
unfolding contents_check
writable c e =
    let caps = caps_check (members_of c) c.caps in
    let proposals = proposal_check (members_of c) c.proposals in
    let note = note_check (length c.note) in
    let plain = plain_check c.parents c.costs in
    let after_tree = second_accepted plain (caps then proposals then note) e in
    let after_caps = second_accepted caps (proposals then note) after_tree in
    let noted = second_accepted proposals note after_caps in
    record {
      tree = plain_check_lem c.parents c.costs ∙ first_accepted plain (caps then proposals then note) e;
      caps = first_accepted caps (proposals then note) after_tree;
      proposals = first_accepted proposals note after_caps;
      note =
          ltb-false longest_note (length c.note) (no_fault (ltb longest_note (length c.note)) 19 0 noted);
    }

module _ (c : Contents) (ok : Writable c) where
  pub accepts : contents_check c ≡ accepted
  unfolding contents_check
  accepts =
      rw (
        sym (plain_check_lem c.parents c.costs) ∙ ok.tree,
        ok.caps,
        ok.proposals,
        le-ltb longest_note (length c.note) ok.note,
      )

  -- so the job of version 1 can be made of them
  pub fillable : Fillable One (replicate (length c.parents) 0) c
  fillable = plain_fillable c ok.tree ok.caps ok.proposals ok.note
