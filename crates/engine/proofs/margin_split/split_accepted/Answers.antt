use native.Mathlib.Omega.{arith}
use Rattle.tree.proofs.MembersListed.{members_few}
use Rattle.engine.proofs.margin_split.split_accepted.Goals as goal

pub slice_bounds-vertices-end : goal.slice_bounds-vertices-end
slice_bounds-vertices-end c = omega (arith, c.requires.users_value, members_few _ c.args.marks.now c.requires.sound)
