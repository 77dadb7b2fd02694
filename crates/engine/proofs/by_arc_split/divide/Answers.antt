use mathlib.Core.Path.{sym, ap, ◌∙◌}
use Rattle.game.specs.ByArc.{by_arc}
use Rattle.tree.proofs.MembersListed.{written_listed, written_network, written_count}
use Rattle.engine.proofs.by_arc_split.divide.Goals as goal

pub write_by_arc-requires : goal.write_by_arc-requires
write_by_arc-requires c =
    let pre = c.requires in
    let marks = pre.marked in
    let is = c.write_members.ensures in
    record {
      sound = pre.sound;
      costed = pre.costed;
      listed = written_listed _ _ marks is;
      shares_len = pre.out_len ∙ sym (written_count _ _ marks is);
    }

pub returns : goal.returns
returns c =
    c.write_by_arc.ensures
    ∙ ap by_arc (written_network _ _ c.requires.marked c.write_members.ensures c.args.costs.now)
