use Rattle.std.proofs.Common.{◌≡◌, ltb, take}
use Rattle.std.specs.List.{count_by}
use Rattle.turns.proofs.count.count_below.Given as goal

abbrev pub invariant-loop-key : goal.invariant-loop-key
invariant-loop-key l = l.count ≡ count_by (λ key. ltb key l.bound) (take l.key-index l.keys)
