use mathlib.Core.Path.{◌∙◌}
use Rattle.game.specs.Network.{sum_below}
use Rattle.level.proofs.Stopped.{stop_answer}
use Rattle.level.proofs.stops.compare.Goals as goal

pub write_adjusted-requires : goal.write_adjusted-requires
unfolding sum_below
write_adjusted-requires c =
    let pre = c.requires in
    let rest = pre in
    record {
      sound = pre.sound;
      costed = pre.costed;
      listed = pre.listed;
      capped = rest.capped_2;
      needs_value = c.write_needs.ensures.out_after;
      out_len = rest.out_len;
    }

pub returns : goal.returns
returns c =
    let given = c.args in record {
      result_value = c.first_stop.ensures _
          ∙ stop_answer given.parents.now given.costs.now given.vertices.now given.caps.now
          given.floors.now c.write_needs.ensures.out_after c.write_adjusted.ensures
          c.write_cap_sums.ensures.out_after;
      out_after = c.write_adjusted.ensures;
    }
