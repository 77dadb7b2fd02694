use Prim.Native.Nat.{ℕ}
use mathlib.Core.List.{List}
use mathlib.Core.Path.{◌≡◌, sym, ap, ◌∙◌, subst}
use lib.ListN.{length}
use Rattle.game.specs.Network.{Network, member_count}
use Rattle.game.specs.Tree.{network_of}
use Rattle.answer_forms.specs.Answer.{accepted}
use Rattle.answers.specs.Level.{split, caps_check, split_from, level_shares}
use Rattle.tree.specs.Passes.{Capped}
use Rattle.level.proofs.CapsAccepted.{caps_accepted}
use Rattle.tree.proofs.MembersListed.{written_listed, written_network, written_count}
use Rattle.std.proofs.lemmas.Result.{err_from_is_err_and}
use Rattle.engine.proofs.level_split.split_accepted.Goals as goal

pub write_level-requires : goal.write_level-requires
write_level-requires c =
    let pre = c.requires in
    let one_a_member = written_count _ _ pre.marked c.write_members.ensures in
    let limited : (l : List ℕ) → caps_check (member_count (network_of c.args.parents.now c.args.costs.now c.args.marks.now)) l ≡ accepted → Capped (length c.write_members.new.out) l =
    λ l e. rw one_a_member (caps_accepted _ _ e) in
    record {
      sound = pre.sound;
      costed = pre.costed;
      listed = written_listed _ _ pre.marked c.write_members.ensures;
      capped = limited _ pre.caps_value;
      capped_2 = limited _ pre.floors_value;
      shares_len = pre.out_len ∙ sym one_a_member;
    }

pub returns-in_err-write_level : goal.returns-in_err-write_level
returns-in_err-write_level c =
    let found = c.in_err-write_level.ensures in
    let same = written_network _ _ c.requires.marked c.write_members.ensures c.args.costs.now in
    let passed_on = err_from_is_err_and c.from_residual.result c.from_residual.ensures.1 in
    rw (passed_on.1, passed_on.2)
    (record {
      result_value = found.result_value
          ∙ ap (λ (n : Network). split_from n c.args.caps.now c.args.floors.now n.arcs) same;
      out_after = found.shares_after;
    })

pub returns : goal.returns
returns c =
    let found = c.in_ok-write_level.ensures in
    let caps = c.args.caps.now in
    let floors = c.args.floors.now in
    let same = written_network _ _ c.requires.marked c.write_members.ensures c.args.costs.now in
    record {
      result_value = ap split (written_count _ _ c.requires.marked c.write_members.ensures)
          ∙ subst (λ (n : Network). split (member_count n) ≡ split_from n caps floors n.arcs) same found.result_value;
      out_after = found.shares_after ∙ ap (λ (n : Network). level_shares n caps floors) same;
    }
