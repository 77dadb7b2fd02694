use mathlib.Core.Path.{◌≡◌, ◌∙◌}
use mathlib.Core.List.{[]}
use borrow.Author.Rules.{rules}
use lib.ListN.{length, replicate}
use Rattle.tree.specs.Passes.{network_at}
use Rattle.tree.proofs.Vertices.{vertices_count}
use Rattle.tree.proofs.UserCounts.{ones_count}
use Rattle.tree.proofs.counts.write_user_counts.Goals as goal

pub returns : goal.returns
returns c =
    let args = c.args in
    let pre = c.requires in
    let ones : c.fill.new.self ≡ replicate (length args.ones.now) 1 = search rules in
    c.write_cap_sums.ensures.out_after
    ∙ ones_count ones (network_at args.parents.now [] args.vertices.now)
    (pre.ones_len ∙ vertices_count _ _ pre.listed)
