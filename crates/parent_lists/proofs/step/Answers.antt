use mathlib.Core.Path.{refl}
use mathlib.Core.Option.{Option-elim}
use native.Mathlib.Omega.{arith}
use Rattle.parent_lists.proofs.Carry.{none_follows, raised_entry, raised_follows}
use Rattle.parent_lists.proofs.step.Goals as goal

pub returns-in_default : goal.returns-in_default
unfolding Option-elim
returns-in_default c =
    let none = none_follows c.requires c.in_default.ensures in
    record { value = rw none refl; parents_after = rw none refl }

pub overflow_add-parents : goal.overflow_add-parents
overflow_add-parents c =
    let rises = c.in-Some.ensures in
    omega (
      arith,
      raised_entry c.requires rises c.clear_behind.ensures,
      rises.room,
      rises.within,
      c.requires.few,
    )

pub returns : goal.returns
unfolding Option-elim
returns c =
    let next = raised_follows c.requires c.in-Some.ensures c.clear_behind.ensures in
    record { value = rw next refl; parents_after = rw next refl }
