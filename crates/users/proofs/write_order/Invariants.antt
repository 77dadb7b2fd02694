use Prim.Native.Nat.{ℕ, ◌<◌}
use mathlib.Core.Path.{◌≡◌}
use lib.ListN.{get_or}
use Rattle.users.specs.Layout.{slot}
use Rattle.users.proofs.write_order.Given as goal

-- the members below j stand at their places
abbrev pub invariant-loop-j : goal.invariant-loop-j
invariant-loop-j l = (i : ℕ) → i < l.j → get_or l.order (slot l.vertices l.starts i) 0 ≡ i
