use Rattle.std.proofs.Common.{ℕ, List, arith, ltb, sym, ap, ◌∙◌}
use lib.Seq.{take_all}
use Rattle.std.specs.List.{count_by}
use Rattle.turns.proofs.Loops.{lower_is}
use Rattle.turns.proofs.count.count_below.Goals as goal

pub returns : goal.returns
returns c =
    c.loop-key.invariant
    ∙ ap (λ (l : List ℕ). count_by (λ key. ltb key c.args.bound) l)
    (take_all c.loop-key.key-index c.args.keys.now (omega arith))
    ∙ sym (lower_is c.args.keys.now c.args.bound)
