use Prim.Native.Nat.{◌≤◌}
use mathlib.Core.Path.{◌≡◌, refl, ◌∙◌}
use native.Mathlib.Omega.{arith}
use Rattle.game.specs.Network.{member_count}
use Rattle.game.specs.Tree.{tree_of, network}
use Rattle.limits.specs.Limits.{most_arcs}
use Rattle.answer_forms.specs.Answer.{accepted}
use Rattle.answers.specs.Checks.{tree_check}
use Rattle.answers.specs.States.{made_state}
use Rattle.answers.proofs.Limits.{tree_limits}
use Rattle.events.proofs.Arrays.{zeros_padded, zeros_room}
use Rattle.events.proofs.Made.{counted, not_counted, lent_answer, split_refused, shares_padded, made}
use Rattle.events.proofs.make.make_state.Goals as goal
use Rattle.events.proofs.make.make_state.Goals.{In-Ok}

-- the tree is accepted, and so many are its members
tree_counted : (c : In-Ok) → let t = tree_of c.args.parents.now c.args.costs.now c.args.marks.now in
    (tree_check t ≡ accepted) × (c.in-Ok.members ≡ member_count (network t))
tree_counted c =
    counted (tree_of c.args.parents.now c.args.costs.now c.args.marks.now)
    (rw c.in-Ok.is at c.count_members-counted.ensures)

pub returns-in_default : goal.returns-in_default
unfolding made_state
returns-in_default c =
    let t = tree_of c.args.parents.now c.args.costs.now c.args.marks.now in
    let is = c.count_members-counted.ensures in
    record { answer_value = is; state_value = rw (not_counted t (rw c.in_default.is at is)) c.no_state.ensures }

few : (c : In-Ok) → c.in-Ok.members ≤ most_arcs
few c =
    let is = tree_counted c in
    rw is.1 (tree_limits (tree_of c.args.parents.now c.args.costs.now c.args.marks.now) is.0).members

pub slice_bounds-shares-end : goal.slice_bounds-shares-end
slice_bounds-shares-end c =
    omega (arith, zeros_room zeros_padded, few (goal.at.slice_bounds-shares-end c).In-Ok)

pub returns-in_default-answer : goal.returns-in_default-answer
unfolding made_state
returns-in_default-answer c =
    let t = tree_of c.args.parents.now c.args.costs.now c.args.marks.now in
    let here = (goal.at.returns-in_default-answer c).In-Ok in
    let counts = (tree_counted here).1 in
    let is = c.split_by_arc-answer.ensures.result_value in
    record {
      answer_value = is ∙ lent_answer t _ counts (few here) zeros_padded;
      state_value = rw (split_refused t _ counts (few here) zeros_padded (rw c.in_default-answer.is at is)) c.no_state-in_default-answer.ensures;
    }

pub held-requires : goal.held-requires
held-requires c =
    let limits = tree_limits _ (tree_counted (goal.at.held-requires c).In-Ok).0 in
    record {
      parents_len_bound = limits.arcs;
      costs_len_bound = omega (arith, limits.arcs, limits.costs);
      marks_len_bound = omega (arith, limits.arcs, limits.marks);
    }

pub returns : goal.returns
returns c =
    let t = tree_of c.args.parents.now c.args.costs.now c.args.marks.now in
    let here = (goal.at.returns c).In-Ok in
    let is = tree_counted here in
    record {
      answer_value = c.split_by_arc-answer.ensures.result_value ∙ lent_answer t _ is.1 (few here) zeros_padded;
      state_value = c.held.ensures ∙ made t _ is.0 refl refl refl
          (shares_padded t _ is.1 (few here) zeros_padded is.0 c.split_by_arc-answer.ensures.out_after);
    }
