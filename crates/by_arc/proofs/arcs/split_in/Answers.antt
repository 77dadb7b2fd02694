use mathlib.Core.Path.{◌∙◌}
use Rattle.users.proofs.Laid.{user_counts}
use Rattle.by_arc.proofs.Split.{split_placed, split_is}
use Rattle.by_arc.proofs.arcs.split_in.Goals as goal

pub write_parts-requires : goal.write_parts-requires
write_parts-requires c =
    let pre = c.requires in
    record { sound = pre.sound; costed = pre.costed; counts = user_counts _ _ pre.sound c.write_user_counts.ensures }

pub write_shares-requires : goal.write_shares-requires
write_shares-requires c =
    let pre = c.requires in record {
      placed = split_placed _ _ _ pre.sound pre.costed pre.listed c.write_tallies.ensures
          c.write_user_counts.ensures c.write_parts.ensures;
      shares_len = c.write_user_counts.auto.ones ∙ pre.shares_len;
    }

pub returns : goal.returns
returns c =
    let pre = c.requires in
    c.write_shares.ensures
    ∙ split_is _ _ _ pre.sound pre.costed pre.listed c.write_tallies.ensures
    c.write_user_counts.ensures c.write_parts.ensures
