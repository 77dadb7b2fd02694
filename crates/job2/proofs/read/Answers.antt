use mathlib.Core.Path.{refl, sym}
use native.Mathlib.Omega.{arith}
use Rattle.job_bytes.specs.Versions.{floor_width}
use Rattle.job_bytes.specs.declared.version.Version.TheVariants.{Two}
use Rattle.job_checks.proofs.Counted.{member_column}
use Rattle.job2.specs.Reader.{lent2}
use Rattle.job2.proofs.Answered.{read_job}
use Rattle.job2.proofs.Roomy.{has_room}
use Rattle.job2.proofs.read.Goals as goal

pub read_contents-t-requires : goal.read_contents-t-requires
read_contents-t-requires c =
    let args = c.args in
    let lists = lent2 args.parents.now args.costs.now args.marks.now args.caps.now args.proposals.now args.floors.now in
    let ok = has_room _ lists c.in_ok-check_room.ensures c.in_ok-check_job.ensures in
    record { layout = ok.job.layout; room = ok.four }

pub read_column-requires : goal.read_column-requires
read_column-requires c =
    let args = c.args in
    let lists = lent2 args.parents.now args.costs.now args.marks.now args.caps.now args.proposals.now args.floors.now in
    let ok = has_room _ lists c.in_ok-check_room.ensures c.in_ok-check_job.ensures in
    let t = c.read_contents-t.ensures.trailer_of in
    record {
      width_bound = omega arith;
      within = λ i l. omega (arith, ok.job.arcs_within, t.arc_offset_is, t.arcs_is);
      rows_in_bounds = omega (arith, ok.for_marks, t.arcs_is);
    }

pub read_column-requires-2 : goal.read_column-requires-2
unfolding floor_width
read_column-requires-2 c =
    let args = c.args in
    let lists = lent2 args.parents.now args.costs.now args.marks.now args.caps.now args.proposals.now args.floors.now in
    let ok = has_room _ lists c.in_ok-check_room.ensures c.in_ok-check_job.ensures in
    let t = c.read_contents-t.ensures.trailer_of in
    let within = member_column Two args.bytes.now {floor = 8} ok.job.layout t.member_offset_is t.members_is refl 8 16
    (omega arith) in
    record { width_bound = omega arith; within = within; rows_in_bounds = omega (arith, ok.for_floors, t.members_is) }

pub returns-clause-floors_after : goal.returns-clause-floors_after
unfolding floor_width
returns-clause-floors_after c =
    let args = c.args in
    let lists = lent2 args.parents.now args.costs.now args.marks.now args.caps.now args.proposals.now args.floors.now in
    let read = c.read_contents-t.ensures in
    let t = read.trailer_of in
    let marks = rw (t.arcs_is, t.arc_offset_is) at c.read_column.ensures in
    let floors = rw (t.members_is, t.member_offset_is) at c.read_column-2.ensures in
    let it = read_job _ lists (sym c.in_ok-check_room.ensures) (sym c.in_ok-check_job.ensures) t
    read.parents_after read.costs_after marks read.caps_after read.proposals_after floors in
    it.1
