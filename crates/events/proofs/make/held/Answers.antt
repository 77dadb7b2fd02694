use mathlib.Core.Path.{refl}
use native.Mathlib.Omega.{arith}
use Rattle.events.proofs.Arrays.{zeros_padded, zeros_room, front_padded}
use Rattle.events.proofs.make.held.Goals as goal

pub slice_bounds-copy_from_slice-end : goal.slice_bounds-copy_from_slice-end
slice_bounds-copy_from_slice-end c = omega (arith, zeros_room zeros_padded, c.requires.parents_len_bound)

pub slice_bounds-copy_from_slice-end-2 : goal.slice_bounds-copy_from_slice-end-2
slice_bounds-copy_from_slice-end-2 c = omega (arith, zeros_room zeros_padded, c.requires.costs_len_bound)

pub slice_bounds-copy_from_slice-end-3 : goal.slice_bounds-copy_from_slice-end-3
slice_bounds-copy_from_slice-end-3 c = omega (arith, zeros_room zeros_padded, c.requires.marks_len_bound)

pub returns : goal.returns
returns c =
    rw (
      front_padded zeros_padded c.copy_from_slice.ensures.after refl,
      front_padded zeros_padded c.copy_from_slice-2.ensures.after refl,
      front_padded zeros_padded c.copy_from_slice-3.ensures.after refl,
    ) refl
