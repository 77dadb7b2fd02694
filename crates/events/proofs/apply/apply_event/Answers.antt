use Prim.Native.Nat.{◌≤◌}
use mathlib.Core.Path.{refl, sym, ◌∙◌}
use native.Mathlib.Omega.{arith}
use borrow.Author.Tests.{lt-ltb}
use Rattle.limits.specs.Limits.{most_arcs}
use Rattle.std.proofs.lemmas.Result.{err_from_is_err_and}
use Rattle.answers.specs.States.{tree_in, state_check}
use Rattle.answers.specs.Events.{event_check}
use Rattle.answers.proofs.Limits.{tree_limits}
use Rattle.events.specs.Outcomes.{state_of, event_of}
use Rattle.events.proofs.Arrays.{part_tree, state_check_few}
use Rattle.events.proofs.Made.{counted, not_counted}
use Rattle.events.proofs.Carried.{fit_is, reached_members, reached_check, reached_count, tree_reached, members_few}
use Rattle.events.proofs.apply.apply_event.Goals as goal

-- more arcs than entries
pub returns-then-m-gt-MOST_ARCS : goal.returns-then-m-gt-MOST_ARCS
unfolding state_check
returns-then-m-gt-MOST_ARCS c =
    let many = lt-ltb most_arcs c.args.state.now.arcs c.if-m-gt-MOST_ARCS.true in
    record { answer_value = rw (many, c.at.ensures.reason_value, c.at.ensures.place_value) refl; state_value = rw many refl }

pub returns-in_err-members : goal.returns-in_err-members
returns-in_err-members c =
    let held = state_of c.args.state.now in
    let away = not_counted (tree_in held) (rw (part_tree held) at c.in_err-members.ensures) in
    let exit = c.from_residual in
    let passed_on = err_from_is_err_and exit.result exit.ensures.1 in
    let few = state_check_few held c.if-m-gt-MOST_ARCS.false in
    record { answer_value = rw (passed_on.1, passed_on.2, few, away) refl; state_value = rw (few, away) refl }

pub returns-in_err-check : goal.returns-in_err-check
unfolding event_check
returns-in_err-check c =
    let held = state_of c.args.state.now in
    let ok = (counted (tree_in held) (rw (part_tree held) at c.in_ok-members.ensures)).0 in
    let found = c.in_err-check.ensures ∙ fit_is held (event_of c.args.event) ok in
    let exit = c.from_residual-in_err-check in
    let passed_on = err_from_is_err_and exit.result exit.ensures.1 in
    let few = state_check_few held c.if-m-gt-MOST_ARCS.false in
    record { answer_value = rw (passed_on.1, passed_on.2, few, ok, ← found) refl; state_value = rw (few, ok, ← found) refl }

pub members_after-requires : goal.members_after-requires
members_after-requires c =
    let held = state_of c.args.state.now in
    let is = counted (tree_in held) (rw (part_tree held) at c.in_ok-members.ensures) in
    let limits = tree_limits (tree_in held) is.0 in
    record {
      members_le_most_arcs = omega (arith, limits.members, is.1);
      members_nonzero = omega (arith, limits.someone, is.1);
    }

pub carry_out-requires : goal.carry_out-requires
carry_out-requires c =
    let held = state_of c.args.state.now in
    let next = state_of c.changed-next.result in
    let event = event_of c.args.event in
    let is = counted (tree_in held) (rw (part_tree held) at c.in_ok-members.ensures) in
    let fits = sym (c.in_ok-check.ensures ∙ fit_is held event is.0) in
    let arcs = c.changed-next.ensures.arcs_value in
    let few : next.arcs ≤ most_arcs = omega (arith, arcs, c.if-m-gt-MOST_ARCS.false) in
    let members = c.members_after.ensures
    ∙ reached_members held next event is.0 fits arcs c.changed-next.ensures.marks_value is.1 in
    record {
      arcs_le_most_arcs = few;
      members_value = members;
      members_le_most_arcs = rw members (members_few next few);
    }

pub returns : goal.returns
returns c =
    let held = state_of c.args.state.now in
    let next = state_of c.changed-next.result in
    let event = event_of c.args.event in
    let ok = (counted (tree_in held) (rw (part_tree held) at c.in_ok-members.ensures)).0 in
    let fits = sym (c.in_ok-check.ensures ∙ fit_is held event ok) in
    let arcs = c.changed-next.ensures.arcs_value in
    let marks = c.changed-next.ensures.marks_value in
    let few = state_check_few held c.if-m-gt-MOST_ARCS.false in
    let check = reached_check held next event ok fits arcs marks in
    let tree = tree_reached held next event ok fits arcs marks in
    record {
      answer_value = rw (few, ok) (c.carry_out.ensures.answer_value ∙ reached_count held next event ok fits arcs marks);
      state_value = rw (few, ok) (rw (check, tree) at c.carry_out.ensures.state_value);
    }
