use Rattle.std.proofs.Common.{Some}
use Rattle.std.specs.Fn.{FnReturnsAt}
use Rattle.test_lines.specs.Lists.{FrontOf}
use Rattle.test_lines.proofs.list.read.Given as goal

-- the entries so far
abbrev pub invariant-loop-part : goal.invariant-loop-part
invariant-loop-part g l = FrontOf (λ x. (part : _) × FnReturnsAt g.F.Fn l.entry part (Some x)) l.n l.out
