use mathlib.Core.Path.{◌≡◌, refl, ◌∙◌}
use native.Mathlib.Omega.{arith}
use Rattle.game.specs.Tree.{tree_of}
use Rattle.std.proofs.lemmas.Result.{err_from_is_err_and}
use Rattle.answer_forms.specs.Answer.{accepted}
use Rattle.answers.specs.Checks.{tree_check}
use Rattle.answers.specs.Members.{member_count_answer}
use Rattle.answers.proofs.Limits.{tree_limits}
use Rattle.events.proofs.Arrays.{zeros_padded}
use Rattle.events.proofs.Made.{split_accepted, split_refused, shares_padded, made}
use Rattle.events.proofs.make.split_into_state.Goals as goal
use Rattle.events.proofs.make.split_into_state.Goals.{In_ok-split_by_arc}

tree_accepted : (c : In_ok-split_by_arc)
    → tree_check (tree_of c.args.parents.now c.args.costs.now c.args.marks.now) ≡ accepted
tree_accepted c =
    split_accepted _ _ c.requires.members_value c.requires.members_le_most_arcs
    zeros_padded c.in_ok-split_by_arc.ensures.result_value

pub returns-in_err-split_by_arc : goal.returns-in_err-split_by_arc
unfolding member_count_answer
returns-in_err-split_by_arc c =
    let t = tree_of c.args.parents.now c.args.costs.now c.args.marks.now in
    let away = split_refused t _ c.requires.members_value c.requires.members_le_most_arcs zeros_padded
    c.in_err-split_by_arc.ensures.result_value in
    let exit = c.from_residual in
    let passed_on = err_from_is_err_and exit.result exit.ensures.1 in
    record { answer_value = rw (passed_on.1, passed_on.2, away) refl; state_value = rw away refl }

pub held-requires : goal.held-requires
held-requires c =
    let limits = tree_limits _ (tree_accepted (goal.at.held-requires c).In_ok-split_by_arc) in
    record {
      parents_len_bound = limits.arcs;
      costs_len_bound = omega (arith, limits.arcs, limits.costs);
      marks_len_bound = omega (arith, limits.arcs, limits.marks);
    }

pub returns : goal.returns
unfolding member_count_answer
returns c =
    let t = tree_of c.args.parents.now c.args.costs.now c.args.marks.now in
    let ok = tree_accepted (goal.at.returns c).In_ok-split_by_arc in
    record {
      answer_value = rw (ok, c.requires.members_value) refl;
      state_value = rw ok (c.held.ensures ∙ made t _ ok refl refl refl
          (shares_padded t _ c.requires.members_value c.requires.members_le_most_arcs zeros_padded ok
          c.in_ok-split_by_arc.ensures.out_after));
    }
