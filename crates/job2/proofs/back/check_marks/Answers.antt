use Rattle.job_bytes.specs.declared.version.Version.TheVariants.{Two}
use native.Mathlib.Omega.{arith}
use Rattle.basics.proofs.Lists.{entries_length, entries_part}
use Rattle.job_bytes.specs.Format.{arc_offset, job_arcs, parent_at}
use Rattle.job2.proofs.Readable.{readable}
use Rattle.job2.proofs.back.check_marks.Goals as goal

pub read-t-requires : goal.read-t-requires
read-t-requires c = (readable Two _ c.requires).layout.long

pub read_column-requires : goal.read_column-requires
read_column-requires c =
    let r = readable Two _ c.requires in
    let t = c.read-t.ensures in
    record {
      width_bound = omega arith;
      within = λ i l. omega (arith, r.arcs_within, t.arc_offset_is, t.arcs_is);
      rows_in_bounds = omega (arith, r.room.for_parents, t.arcs_is);
    }

pub read_column-requires-2 : goal.read_column-requires-2
read_column-requires-2 c =
    let r = readable Two _ c.requires in
    let t = c.read-t.ensures in
    record {
      width_bound = omega arith;
      within = λ i l. omega (arith, r.arcs_within, t.arc_offset_is, t.arcs_is);
      rows_in_bounds = omega (arith, r.room.for_parents, t.arcs_is);
    }

pub read_column-requires-3 : goal.read_column-requires-3
read_column-requires-3 c =
    let r = readable Two _ c.requires in
    let t = c.read-t.ensures in
    record {
      width_bound = omega arith;
      within = λ i l. omega (arith, r.arcs_within, t.arc_offset_is, t.arcs_is);
      rows_in_bounds = omega (arith, r.room.for_parents, t.arcs_is);
    }

pub slice_bounds-check_marked-end : goal.slice_bounds-check_marked-end
slice_bounds-check_marked-end c = omega (arith, (readable Two _ c.requires).room.for_parents, c.read-t.ensures.arcs_is)

pub check_marked-requires : goal.check_marked-requires
check_marked-requires c =
    let r = readable Two _ c.requires in
    let t = c.read-t.ensures in
    let parents = entries_part _ _ _ c.read_column.ensures in
    let marks = entries_part _ _ _ c.read_column-2.ensures in
    let costs = entries_part _ _ _ c.read_column-3.ensures in
    record {
      costs_value = rw (parents, costs) (rw (t.arcs_is, t.arc_offset_is) r.tree);
      marks_len = rw (parents, marks) (rw (t.arcs_is, t.arc_offset_is) r.filled);
    }

pub returns : goal.returns
returns c =
    let t = c.read-t.ensures in
    let bytes = c.args.bytes.now in
    let parents = entries_part _ _ _ c.read_column.ensures in
    let marks = entries_part _ _ _ c.read_column-2.ensures in
    let found = rw (t.arcs_is, t.arc_offset_is) at (rw (parents, marks) at c.check_marked.ensures) in
    rw (entries_length (parent_at bytes (arc_offset bytes)) (job_arcs bytes)) at found
