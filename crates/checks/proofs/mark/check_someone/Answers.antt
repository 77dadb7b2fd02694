use Prim.Native.Nat.{suc}
use mathlib.Core.Path.{sym, ap}
use mathlib.Core.Bool.{Bool, not}
use native.Mathlib.Omega.{arith}
use Rattle.std.proofs.Common.{rules}
use lib.ListN.{length}
use Rattle.basics.proofs.Sums.{some_of, some_none}
use Rattle.game.specs.Tree.{marked}
use Rattle.answer_forms.specs.Answer.{fault}
use Rattle.checks.proofs.mark.check_someone.Goals as goal

pub returns-then-contains : goal.returns-then-contains
returns-then-contains c =
    let marks = c.args.marks.now in
    let (k, within, is) = c.if-contains.ensures.cases in
    sym
    (ap (λ (b : Bool). fault (not b) 18 0)
    (some_of (length marks) (suc k) (marked marks) (omega arith) (is 0)))

pub returns-else-contains : goal.returns-else-contains
returns-else-contains c =
    let marks = c.args.marks.now in
    let nobody = some_none (length marks) (marked marks) (λ i l. c.if-contains.ensures.cases i 0 (omega arith) l) in
    rw nobody (search rules)
