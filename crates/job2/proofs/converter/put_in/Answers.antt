use native.Mathlib.Omega.{arith}
use Rattle.job2.specs.Converter.{other, in_version}
use Rattle.job2.proofs.Readable.{readable}
use Rattle.job2.proofs.Parts.{values_part, note_part, ready}
use Rattle.job2.proofs.converter.put_in.Goals as goal

pub read_contents-t-requires : goal.read_contents-t-requires
read_contents-t-requires c =
    let r = readable (other c.args.version) _ c.requires.bytes_value
    in record { layout = rw c.other_version-from.ensures r.layout; room = r.room }

pub slice_bounds-lists-end : goal.slice_bounds-lists-end
slice_bounds-lists-end c =
    omega (
      arith,
      (readable (other c.args.version) _ c.requires.bytes_value).arcs_within,
      c.read_contents-t.ensures.trailer_of.arc_offset_is,
    )

pub slice_bounds-lists-end-2 : goal.slice_bounds-lists-end-2
slice_bounds-lists-end-2 c =
    omega (
      arith,
      (readable (other c.args.version) _ c.requires.bytes_value).room.for_parents,
      c.read_contents-t.ensures.trailer_of.arcs_is,
    )

pub slice_bounds-lists-end-4 : goal.slice_bounds-lists-end-4
slice_bounds-lists-end-4 c =
    omega (
      arith,
      (readable (other c.args.version) _ c.requires.bytes_value).room.for_caps,
      c.read_contents-t.ensures.trailer_of.members_is,
    )

pub put_contents-requires : goal.put_contents-requires
put_contents-requires c =
    let read = c.read_contents-t.ensures in
    let t = read.trailer_of in
    let from = c.other_version-from.ensures in
    let note = note_part c.args.bytes.now t.arc_offset_is in
    let parents = values_part _ _ _ t.arcs_is read.parents_after in
    let costs = values_part _ _ _ t.arcs_is read.costs_after in
    let caps = values_part _ _ _ t.members_is (rw from at read.caps_after) in
    let proposals = values_part _ _ _ t.members_is (rw from at read.proposals_after) in
    rw (note, parents, costs, caps, proposals)
    (ready _ _ c.requires.bytes_value c.args.out.now c.requires.bytes_in_bounds)

pub returns : goal.returns
unfolding in_version
returns c =
    let read = c.read_contents-t.ensures in
    let t = read.trailer_of in
    let from = c.other_version-from.ensures in
    let note = note_part c.args.bytes.now t.arc_offset_is in
    let parents = values_part _ _ _ t.arcs_is read.parents_after in
    let costs = values_part _ _ _ t.arcs_is read.costs_after in
    let caps = values_part _ _ _ t.members_is (rw from at read.caps_after) in
    let proposals = values_part _ _ _ t.members_is (rw from at read.proposals_after) in
    rw (note, parents, costs, caps, proposals) at c.put_contents.ensures
