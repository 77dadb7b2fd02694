use native.Mathlib.Omega.{arith}
use Rattle.turns.proofs.Served.{handed_back, none_left}
use Rattle.turns.proofs.give_in_turn.Goals as goal

pub returns-then-more-eq0 : goal.returns-then-more-eq0
returns-then-more-eq0 c = none_left (omega (arith, c.if-more-eq0.true))

pub returns : goal.returns
returns c = handed_back c.find_bound-bound.ensures c.raise_below.ensures
