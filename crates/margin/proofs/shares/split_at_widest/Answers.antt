use mathlib.Core.Path.{◌∙◌}
use Rattle.margin.proofs.AtRaised.{raised_bounds, level_at_raised}
use Rattle.margin.proofs.shares.split_at_widest.Goals as goal

pub write_shares-requires-clause-bounds : goal.write_shares-requires-clause-bounds
write_shares-requires-clause-bounds c =
    let pre = c.requires in
    let found = c.raise_at_widest-margin in
    raised_bounds _ _ _ pre.sound pre.costed pre.listed _ pre.branched pre.vertices_nonzero found.ensures.value
    found.ensures.out_after (c.fill.ensures.after (λ y e. e)) (found.auto.ones ∙ pre.caps_len)

pub returns-clause-shares_after : goal.returns-clause-shares_after
returns-clause-shares_after c =
    let pre = c.requires in
    let found = c.raise_at_widest-margin in
    c.write_shares.ensures
    ∙ level_at_raised _ _ _ pre.sound pre.costed pre.listed _ pre.branched pre.vertices_nonzero found.ensures.value
    found.ensures.out_after (c.fill.ensures.after (λ y e. e)) (found.auto.ones ∙ pre.caps_len)
