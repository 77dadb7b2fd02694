use mathlib.Core.Path.{ap, ◌∙◌}
use mathlib.Core.List.{[]}
use Rattle.basics.specs.Sum.{list}
use Rattle.game.specs.Network.{Network}
use Rattle.answers.specs.Level.{cap_sum}
use Rattle.level.proofs.CapsAccepted.{caps_accepted}
use Rattle.tree.proofs.MembersListed.{written_listed, written_network, written_count}
use Rattle.engine.proofs.cap_sums.list_accepted.Goals as goal

pub write_cap_sums-requires : goal.write_cap_sums-requires
write_cap_sums-requires c =
    let pre = c.requires in
    let marks = pre.marked in
    let is = c.write_members.ensures in
    let caps = caps_accepted _ _ pre.caps_value in
    record {
      sound = pre.sound;
      listed = written_listed _ _ marks is;
      capped = rw (written_count _ _ marks is) caps;
      out_len = pre.out_len;
    }

pub returns : goal.returns
returns c =
    let sums = c.write_cap_sums.ensures in
    let same = written_network _ _ c.requires.marked c.write_members.ensures [] in
    record {
      value = sums.value;
      out_after = sums.out_after ∙ ap (λ (n : Network). list n.arcs (cap_sum n c.args.caps.now)) same;
    }
