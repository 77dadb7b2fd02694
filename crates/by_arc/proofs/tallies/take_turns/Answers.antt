use native.Mathlib.Omega.{arith}
use Rattle.by_arc.proofs.Turning.{order_few, part_few, turned_start, turned_within, turned_keys, turned_size, turned_on}
use Rattle.by_arc.proofs.tallies.take_turns.Goals as goal

pub loop-i-init : goal.loop-i-init
loop-i-init c = turned_start _ _ _ c.requires.laid_out c.requires.keys_value c.requires.costs_len

pub overflow_cast-users : goal.overflow_cast-users
overflow_cast-users c =
    omega (
      arith,
      part_few _ _ c.requires.sound c.requires.laid_out c.loop-i.i (omega arith) (omega arith),
    )

pub overflow_add-from : goal.overflow_add-from
overflow_add-from c =
    omega (
      arith,
      part_few _ _ c.requires.sound c.requires.laid_out c.loop-i.i (omega arith) (omega arith),
    )

pub offset_bounds-keys-from : goal.offset_bounds-keys-from
offset_bounds-keys-from c =
    omega (
      arith,
      part_few _ _ c.requires.sound c.requires.laid_out c.loop-i.i (omega arith) (omega arith),
    )

pub slice_bounds-give_in_turn-end : goal.slice_bounds-give_in_turn-end
slice_bounds-give_in_turn-end c =
    turned_within _ _ _ c.requires.laid_out c.loop-i.i (omega arith) (omega arith) c.loop-i.invariant

pub give_in_turn-requires : goal.give_in_turn-requires
give_in_turn-requires c =
    let pre = c.requires in
    record {
      keys = turned_keys _ _ _ pre.laid_out c.loop-i.i (omega arith) (omega arith) c.loop-i.invariant pre.sound;
      base_le_most_arcs = order_few _ _ pre.sound pre.laid_out;
      more_in_bounds = omega (
        arith,
        turned_size _ _ _ pre.laid_out c.loop-i.i (omega arith) (omega arith) c.loop-i.invariant,
        c.left_of-more.ensures.upper_bound,
      );
    }

pub loop-i-preserved : goal.loop-i-preserved
loop-i-preserved c =
    turned_on _ _ _ c.requires.laid_out c.loop-i.i (omega arith) (omega arith) c.loop-i.invariant
    c.left_of-more.result c.left_of-more.ensures.value _ c.give_in_turn.ensures
