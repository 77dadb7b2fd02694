use Prim.Native.Nat.{ℕ}
use mathlib.Core.Path.{◌≡◌, ◌∙◌}
use Rattle.std.proofs.Common.{rules}
use Rattle.std.specs.List.{sum_by}
use Rattle.tree.proofs.ListSums.{sum_by_arcs}
use Rattle.tree.proofs.whole.whole_cost.Goals as goal

pub returns : goal.returns
returns c =
    let e : c.sum.result ≡ sum_by (λ (x : ℕ). x) c.args.costs.now = search rules in
    e ∙ sum_by_arcs (λ x. x) c.args.costs.now
