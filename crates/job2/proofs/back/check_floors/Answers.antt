use mathlib.Core.Path.{refl}
use native.Mathlib.Omega.{arith}
use Rattle.basics.proofs.Lists.{entries_part, entries_length}
use Rattle.job_bytes.specs.Versions.{floor_width}
use Rattle.job_bytes.specs.declared.version.Version.TheVariants.{Two}
use Rattle.job_bytes.specs.Format.{member_offset, job_members, floor_at}
use Rattle.job_checks.proofs.Counted.{member_column}
use Rattle.job2.proofs.Readable.{readable}
use Rattle.job2.proofs.back.check_floors.Goals as goal

pub read-t-requires : goal.read-t-requires
read-t-requires c = (readable Two _ c.requires).layout.long

pub read_column-requires : goal.read_column-requires
unfolding floor_width
read_column-requires c =
    let r = readable Two _ c.requires in
    let t = c.read-t.ensures in
    let within = member_column Two c.args.bytes.now {floor = 8} r.layout t.member_offset_is
    t.members_is refl 8 16 (omega arith) in
    record { width_bound = omega arith; within = within; rows_in_bounds = omega (arith, r.room.for_caps, t.members_is) }

pub slice_bounds-check_each-end : goal.slice_bounds-check_each-end
slice_bounds-check_each-end c = omega (arith, (readable Two _ c.requires).room.for_caps, c.read-t.ensures.members_is)

pub returns : goal.returns
unfolding floor_width
returns c =
    let t = c.read-t.ensures in
    let bytes = c.args.bytes.now in
    let floors = entries_part _ _ _ c.read_column.ensures in
    let found = rw (t.members_is, t.member_offset_is) at (rw floors at c.check_each.ensures) in
    rw (entries_length (floor_at Two bytes (member_offset bytes)) (job_members bytes)) at found
