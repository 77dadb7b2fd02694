use Prim.Native.Nat.{◌*◌, ◌<◌}
use mathlib.Core.Path.{◌≡◌}
use lib.ListN.{length, take}
use Rattle.answers.specs.Classes.{classed_of, joined, class_shares, paid_in, cost_in}
use Rattle.cost_classes.proofs.Fits.{Fits}
use Rattle.cost_classes.proofs.Totals.{totals_to}
use Rattle.cost_classes.proofs.shares.write_classes.Given as goal

abbrev pub invariant-loop-c : goal.invariant-loop-c
invariant-loop-c l =
    let w = classed_of l.parents l.costs l.marks l.classes in
    (l.c < l.classes → Fits w l.vertices l.initial.out l.c)
    × (take (l.c * length l.vertices) l.out ≡ joined l.c (class_shares w))
    × (l.totals ≡ totals_to (paid_in w) (cost_in w) l.c)
