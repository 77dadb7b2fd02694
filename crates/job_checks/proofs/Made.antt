-- A job made of accepted values, with floors of 0, is accepted.
use Prim.Native.Nat.{ℕ, suc, ◌+◌, ◌^◌, ◌<◌, ◌≤◌}
use mathlib.Core.Path.{◌≡◌, sym, ap₂, ◌∙◌}
use mathlib.Core.Bool.{not}
use mathlib.Core.List.{List}
use native.Mathlib.Omega.{arith}
use borrow.Author.Tests.{eq-eqb}
use lib.ListN.{length, get_or, length-replicate}
use lib.Dec.{eqb}
use Rattle.limits.specs.Limits.{most_arcs}
use Rattle.game.specs.Network.{member_count}
use Rattle.game.specs.Tree.{Tree, tree_of, network}
use Rattle.answer_forms.specs.Answer.{Check, accepted, fault, ◌then◌}
use Rattle.answer_forms.proofs.Composed.{went_on}
use Rattle.answers.specs.Checks.{tree_check, proposal_check}
use Rattle.answers.specs.Level.{caps_check}
use Rattle.answers.proofs.Limits.{tree_limits, cap_limits, proposal_limits}
use Rattle.job_bytes.specs.Versions.{floor_width}
use Rattle.job_bytes.specs.JobBytes.{Held, Contents, filled_with, job_bytes}
use Rattle.job_bytes.specs.declared.version.Version.{Version}
use Rattle.job_bytes.specs.declared.version.Version.TheVariants.{One, Two}
use Rattle.job_bytes.proofs.ReadBack.{Fitting, members_is, held_are}
use Rattle.job_form.specs.Form.{longest_note, filler_check}
use Rattle.job_form.proofs.FillersAccepted.{filler_zero, mark_small}
use Rattle.job_form.proofs.FormMade.{form_made, fillers_made}
use Rattle.job_checks.proofs.Zeros.{zero_at, zeros_caps, zeros_within}
use Rattle.job_checks.specs.JobCheck.{marks_of, shares_of, shares_check, values_check, job_check}

-- the tree with these fillers
abbrev pub tree_in : Version → List ℕ → Contents → Tree
tree_in v fillers c = tree_of c.parents c.costs (marks_of v c.parents fillers)

-- values on which no check finds fault
pub record Fillable (v : Version) (fillers : List ℕ) (c : Contents) : Type 0 where
  pub filled : length fillers ≡ length c.parents
  pub filler : (i : ℕ) → filler_check v (get_or fillers i 0) (i + 1) ≡ accepted
  pub tree : tree_check (tree_in v fillers c) ≡ accepted
  pub caps : caps_check (member_count (network (tree_in v fillers c))) c.caps ≡ accepted
  pub proposals : proposal_check (member_count (network (tree_in v fillers c))) c.proposals ≡ accepted
  pub note : length c.note ≤ longest_note

filler_small : (v : Version) (filler arc : ℕ) → filler_check v filler arc ≡ accepted → filler < 256 ^ 2
filler_small One filler arc e = omega (arith, filler_zero filler arc e)
filler_small Two filler arc e = omega (arith, mark_small filler arc e)

zero_small : (v : Version) → 0 < 256 ^ floor_width v
unfolding floor_width
zero_small One = omega arith
zero_small Two = omega arith

module _ (v : Version) (fillers : List ℕ) (c : Contents) (ok : Fillable v fillers c) where
  abbrev members : ℕ
  members = member_count (network (tree_in v fillers c))

  abbrev h : Held
  h = filled_with fillers c

  pub few_arcs : length c.parents ≤ most_arcs
  few_arcs = (tree_limits (tree_in v fillers c) ok.tree).arcs

  pub members_are : length c.caps ≡ members
  members_are = (cap_limits members c.caps ok.caps).0

  pub few_members : length c.caps ≤ most_arcs
  few_members = omega (arith, members_are, (tree_limits (tree_in v fillers c) ok.tree).members)

  pub fits : Fitting v h
  fits =
      let limits = tree_limits (tree_in v fillers c) ok.tree in
      let proposed = proposal_limits members c.proposals ok.proposals in
      record {
        matched = record { filled = ok.filled; costed = limits.costs; proposed = proposed.0 ∙ sym members_are };
        floored = length-replicate (length c.caps) 0;
        offsets = omega (arith, ok.note, few_arcs);
        arcs = omega (arith, few_arcs);
        members = omega (arith, few_members);
        parent = λ i. omega (arith, limits.parent (suc i));
        filler = λ i. filler_small v (get_or fillers i 0) (i + 1) (ok.filler i);
        cost = λ i. omega (arith, limits.cost (suc i));
        cap = λ j. omega (arith, (cap_limits members c.caps ok.caps).1 j);
        proposal = λ j. omega (arith, proposed.1 j);
        floor = λ j. rw (zero_at (length c.caps) j) (zero_small v);
      }

  -- the checks on a job's values, by what it holds and its number of member rows
  abbrev values_of : Held → ℕ → Check
  values_of k rows =
      let t = tree_of k.parents k.costs (marks_of v k.parents k.fillers) in
      let n = member_count (network t) in
      tree_check t then fault (not (eqb rows n)) 15 0 then shares_of n k.caps k.proposals k.floors

  values_made : values_check v (job_bytes v h) ≡ accepted
  unfolding values_check shares_check
  values_made =
      let rows : fault (not (eqb (length c.caps) members)) 15 0 ≡ accepted =
      rw (eq-eqb (length c.caps) members members_are) in
      let floors = zeros_caps (length c.caps) members members_are in
      let within = zeros_within c.caps (length c.caps) members in
      ap₂ values_of (held_are v h fits) (members_is v h fits)
      ∙ sym (went_on ok.tree
      (went_on rows (went_on ok.caps (went_on ok.proposals (went_on floors (sym within))))))

  pub job_made : job_check v (job_bytes v h) ≡ accepted
  unfolding job_check
  job_made =
      let form = form_made v h fits few_arcs few_members ok.note in
      rw (form, fillers_made v h fits few_arcs few_members ok.note ok.filler) values_made
