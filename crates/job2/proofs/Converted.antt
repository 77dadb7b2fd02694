-- A job and what it becomes in the other version.
use Prim.Native.Nat.{ℕ, suc, ◌+◌, ◌≤◌}
use mathlib.Core.Path.{◌≡◌, sym, ap, ◌∙◌}
use mathlib.Core.Bool.{not}
use mathlib.Core.List.{List}
use native.Mathlib.Decide.{dec_lt}
use native.Mathlib.Omega.{arith}
use borrow.Author.Tests.{le-ltb}
use lib.ListN.{length, get_or, replicate, get_or-eq_default}
use Rattle.basics.specs.Sum.{pick}
use Rattle.basics.proofs.Bools.{pick_le}
use Rattle.basics.proofs.Lists.{list_at}
use Rattle.game.specs.Tree.{has_child, dead_ends}
use Rattle.game.proofs.DeadEnds.{dead_ends_length}
use Rattle.answer_forms.specs.Answer.{accepted}
use Rattle.job_bytes.specs.JobBytes.{Held, Contents, contents, filled_with, plain}
use Rattle.job_bytes.specs.Format.{job_parents, job_fillers, job_caps, job_floors, job_contents}
use Rattle.job_bytes.specs.declared.version.Version.TheVariants.{One, Two}
use Rattle.job_bytes.proofs.ReadBack.{held_are}
use Rattle.job_form.specs.Form.{filler_check}
use Rattle.job_checks.specs.JobCheck.{marks_of, job_check}
use Rattle.job_checks.proofs.Accepted.{job_accepted}
use Rattle.job_checks.proofs.Made.{Fillable, fits, job_made}
use Rattle.job_checks.proofs.Plain.{plain_fillable}
use Rattle.job2.specs.Converter.{other, fillers_in, in_version, back_check}
use Rattle.job2.proofs.Readable.{readable}
use Rattle.job2.proofs.Convertible.{back_job, marks_are, floors_are}

-- the contents in what a job holds
abbrev pub contents_in : Held → Contents
contents_in h = contents h.note h.parents h.costs h.caps h.proposals

-- an accepted job of version 1 and one of version 2 have the same contents, and this one marks every dead end and has
-- floors of 0
pub record Same (one two : List ℕ) : Type 0 where
  pub first : job_check One one ≡ accepted
  pub second : job_check Two two ≡ accepted
  pub same : job_contents One one ≡ job_contents Two two
  pub marks : job_fillers two ≡ dead_ends (job_parents two)
  pub floors : job_floors Two two ≡ replicate (length (job_caps Two two)) 0

-- the marks of the dead ends are marks
end_small : (ps : List ℕ) (i : ℕ) → get_or (dead_ends ps) i 0 ≤ 1
unfolding dead_ends
end_small ps i =
    elim (dec_lt i (length ps)) [
      | yes h ↦
          rw (list_at (λ v. pick (not (has_child ps v)) 1) 0 (length ps) i h) (pick_le (not (has_child ps (suc i))) 1)
      | no h ↦ omega (arith, get_or-eq_default (dead_ends ps) 0 {n = i} (omega (arith, dead_ends_length ps)))
    ]

mark_ok : (ps : List ℕ) (i : ℕ) → filler_check Two (get_or (dead_ends ps) i 0) (i + 1) ≡ accepted
unfolding filler_check
mark_ok ps i = rw (le-ltb 1 (get_or (dead_ends ps) i 0) (end_small ps i))

module _ (bytes : List ℕ) where
  module _ (e : job_check One bytes ≡ accepted) where
    fillable2 : Fillable Two (dead_ends (job_parents bytes)) (job_contents One bytes)
    unfolding marks_of
    fillable2 =
        let ok = job_accepted One bytes e in
        let r = readable One bytes e in
        record {
          filled = dead_ends_length (job_parents bytes);
          filler = mark_ok (job_parents bytes);
          tree = ok.tree;
          caps = ok.caps;
          proposals = ok.proposals;
          note = omega (arith, r.noted, r.layout.note_short);
        }

    pub same2 : Same bytes (in_version Two bytes)
    unfolding in_version fillers_in other
    same2 =
        let h = filled_with (dead_ends (job_parents bytes)) (job_contents One bytes) in
        let is = held_are Two h (fits Two _ (job_contents One bytes) fillable2) in
        record {
          first = e;
          second = job_made Two _ (job_contents One bytes) fillable2;
          same = sym (ap contents_in is);
          marks = ap (λ (k : Held). k.fillers) is ∙ sym (ap (λ (k : Held). dead_ends k.parents) is);
          floors = ap (λ (k : Held). k.floors) is ∙ sym (ap (λ (k : Held). replicate (length k.caps) 0) is);
        }

  module _ (e : back_check bytes ≡ accepted) where
    fillable1 : Fillable One (replicate (length (job_parents bytes)) 0) (job_contents Two bytes)
    unfolding marks_of
    fillable1 =
        let job = back_job bytes e in
        let ok = job_accepted Two bytes job in
        let r = readable Two bytes job in
        let ends = marks_are bytes e in
        plain_fillable (job_contents Two bytes) (rw ends at ok.tree) (rw ends at ok.caps)
        (rw ends at ok.proposals) (omega (arith, r.noted, r.layout.note_short))

    pub same1 : Same (in_version One bytes) bytes
    unfolding in_version fillers_in other
    same1 =
        let is = held_are One (plain (job_contents Two bytes)) (fits One _ (job_contents Two bytes) fillable1) in
        record {
          first = job_made One _ (job_contents Two bytes) fillable1;
          second = back_job bytes e;
          same = ap contents_in is;
          marks = marks_are bytes e;
          floors = floors_are bytes e;
        }
