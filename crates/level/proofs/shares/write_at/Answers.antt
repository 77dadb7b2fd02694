use mathlib.Core.Path.{sym, ◌∙◌}
use Rattle.level.proofs.AtAdjusted.{adjusted_bounds, level_at_adjusted}
use Rattle.level.proofs.shares.write_at.Goals as goal

pub write_shares-requires-clause-bounds : goal.write_shares-requires-clause-bounds
write_shares-requires-clause-bounds c =
    let pre = c.requires in
    let given = c.args in
    let found = c.in_ok-find_stop.ensures in
    adjusted_bounds given.parents.now given.costs.now given.vertices.now given.caps.now given.floors.now pre.sound pre.listed
    found.out_after (sym found.result_value)

pub returns-clause-shares_after : goal.returns-clause-shares_after
returns-clause-shares_after c =
    let pre = c.requires in
    let given = c.args in
    c.write_shares.ensures
    ∙ level_at_adjusted given.parents.now given.costs.now given.vertices.now given.caps.now given.floors.now pre.sound
    pre.listed c.in_ok-find_stop.ensures.out_after
