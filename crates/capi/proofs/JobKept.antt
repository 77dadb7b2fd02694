-- The same of the checks on jobs, of either version.
use Prim.Native.Nat.{ℕ, zero, suc, pred, ◌+◌, ◌*◌}
use mathlib.Core.Path.{refl}
use mathlib.Core.Bool.{◌||◌, ◌&&◌, not}
use mathlib.Core.List.{List}
use lib.ListN.{length}
use lib.Dec.{eqb, ltb}
use Rattle.limits.specs.Limits.{most_arcs}
use Rattle.game.specs.Tree.{of_arc, marked, dead_ends}
use Rattle.answer_forms.specs.Answer.{Check, ◌then◌}
use Rattle.answers.specs.Checks.{tree_check, plain_check, member_list_check, outside_share}
use Rattle.answers.specs.Level.{outside_cap, floors_check}
use Rattle.job_bytes.specs.Versions.{version_number, member_width}
use Rattle.job_bytes.specs.JobBytes.{Contents, plain_job}
use Rattle.job_bytes.specs.Format.{arc_offset, member_offset, version, closing0, closing1, job_arcs, job_members}
use Rattle.job_bytes.specs.Format.{job_parents, job_fillers, job_caps, job_proposals, job_floors, filler_at}
use Rattle.job_bytes.specs.declared.version.Version.{Version}
use Rattle.job_bytes.specs.declared.version.Version.TheVariants.{One, Two}
use Rattle.job_form.specs.Form.{fewest_bytes, most_bytes_of, longest_note, form_check, filler_check, fillers_from, fillers_check}
use Rattle.job_checks.specs.JobCheck.{room_check, job_tree, tree_members, count_check, shares_check, values_check, job_check}
use Rattle.job_checks.specs.JobCheck.{space_check}
use Rattle.job.specs.Reader.{Lent, room_in, read_check}
use Rattle.job.specs.Writer.{members_of, note_check, contents_check, write_check}
use Rattle.job2.specs.Reader.{Lent2, room2_in, read2_check}
use Rattle.job2.specs.Converter.{in_version, unmarked_check, floored_check, back_check, to2_check, to1_check}
use Rattle.capi.proofs.Kept.{Kept, fault_kept, then_kept, fault_then_kept, ones_kept, tree_kept, plain_kept}
use Rattle.capi.proofs.Kept.{list_kept, floors_kept}

module _ (v : Version) (bytes : List ℕ) where
  form_kept : Kept (form_check v bytes)
  unfolding form_check
  form_kept =
      fault_then_kept (ltb (length bytes) fewest_bytes || ltb (most_bytes_of v) (length bytes)) 10 0 _
      (fault_then_kept
      (not (eqb (version bytes) (version_number v)) || (not (eqb (closing0 bytes) 84) || not (eqb (closing1 bytes) 74)))
      11 0 _
      (fault_kept
      (ltb longest_note (arc_offset bytes)
      || (not (eqb (member_offset bytes) (arc_offset bytes + 8 * job_arcs bytes))
      || not (eqb (member_offset bytes + member_width v * job_members bytes + 16) (length bytes))))
      12 0))

  shares_kept : Kept (shares_check v bytes)
  unfolding shares_check
  shares_kept =
      let n = tree_members v bytes in
      then_kept (member_list_check outside_cap n (job_caps v bytes)) _ (list_kept outside_cap n (job_caps v bytes))
      (then_kept (member_list_check outside_share n (job_proposals v bytes)) _
      (list_kept outside_share n (job_proposals v bytes))
      (then_kept (member_list_check outside_cap n (job_floors v bytes))
      (floors_check n (job_caps v bytes) (job_floors v bytes)) (list_kept outside_cap n (job_floors v bytes))
      (floors_kept n (job_caps v bytes) (job_floors v bytes))))

  values_kept : Kept (values_check v bytes)
  unfolding values_check
  values_kept =
      then_kept (tree_check (job_tree v bytes)) (count_check v bytes then shares_check v bytes)
      (tree_kept (job_tree v bytes))
      (fault_then_kept (not (eqb (job_members bytes) (tree_members v bytes))) 14 0 (shares_check v bytes) shares_kept)

filler_kept : (v : Version) (filler arc : ℕ) → Kept (filler_check v filler arc)
unfolding filler_check
filler_kept One filler arc = fault_kept (not (eqb filler 0)) 13 arc
filler_kept Two mark arc = fault_kept (ltb 1 mark) 15 arc

fillers_kept : (v : Version) (bytes : List ℕ) (offset i rows : ℕ) → Kept (fillers_from v bytes offset i rows)
unfolding fillers_from
fillers_kept v bytes offset i zero = refl
fillers_kept v bytes offset i (suc rows) =
    then_kept (filler_check v (filler_at bytes offset i) (i + 1)) (fillers_from v bytes offset (i + 1) rows)
    (filler_kept v (filler_at bytes offset i) (i + 1)) (fillers_kept v bytes offset (i + 1) rows)

job_kept : (v : Version) (bytes : List ℕ) → Kept (job_check v bytes)
unfolding job_check
job_kept v bytes =
    then_kept (form_check v bytes) (fillers_check v bytes then values_check v bytes) (form_kept v bytes)
    (then_kept (fillers_check v bytes) (values_check v bytes) (fillers_kept v bytes (arc_offset bytes) 0 (job_arcs bytes))
    (values_kept v bytes))

room_kept : (lengths : List ℕ) → Kept (room_check lengths)
unfolding room_check
room_kept lengths = ones_kept _ (λ i. fault_kept (ltb (of_arc lengths i) most_arcs) 9 0) (length lengths)

pub read_kept : (bytes : List ℕ) (l : Lent) → Kept (read_check bytes l)
unfolding read_check
read_kept bytes l = then_kept (room_in l) (job_check One bytes) (room_kept _) (job_kept One bytes)

pub read2_kept : (bytes : List ℕ) (l : Lent2) → Kept (read2_check bytes l)
unfolding read2_check
read2_kept bytes l = then_kept (room2_in l) (job_check Two bytes) (room_kept _) (job_kept Two bytes)

space_kept : (first : Check) (space size : ℕ) → Kept first → Kept (first then space_check space size)
space_kept first space size kept = then_kept first (space_check space size) kept (fault_kept (ltb space size) 19 0)

pub contents_kept : (c : Contents) → Kept (contents_check c)
unfolding contents_check
contents_kept c =
    let caps = member_list_check outside_cap (members_of c) c.caps in
    let proposals = member_list_check outside_share (members_of c) c.proposals in
    let note = note_check (length c.note) in
    then_kept (plain_check c.parents c.costs) (caps then proposals then note) (plain_kept c.parents c.costs)
    (then_kept caps (proposals then note) (list_kept outside_cap (members_of c) c.caps)
    (then_kept proposals note (list_kept outside_share (members_of c) c.proposals)
    (fault_kept (ltb longest_note (length c.note)) 18 0)))

pub write_kept : (c : Contents) (out : List ℕ) → Kept (write_check c out)
unfolding write_check
write_kept c out = space_kept (contents_check c) (length out) (length (plain_job c)) (contents_kept c)

module _ (bytes out : List ℕ) where
  pub to2_kept : Kept (to2_check bytes out)
  unfolding to2_check
  to2_kept = space_kept (job_check One bytes) (length out) (length (in_version Two bytes)) (job_kept One bytes)

  back_kept : Kept (back_check bytes)
  unfolding back_check unmarked_check floored_check
  back_kept =
      let ends = dead_ends (job_parents bytes) in
      let marks = job_fillers bytes in
      let floors = job_floors Two bytes in
      then_kept (job_check Two bytes) _ (job_kept Two bytes)
      (then_kept (unmarked_check ends marks (job_arcs bytes)) (floored_check floors (job_members bytes))
      (ones_kept _ (λ k. fault_kept (marked ends k && not (marked marks k)) 28 k) (job_arcs bytes))
      (ones_kept _ (λ i. fault_kept (ltb 0 (of_arc floors i)) 29 (pred i)) (job_members bytes)))

  pub to1_kept : Kept (to1_check bytes out)
  unfolding to1_check
  to1_kept = space_kept (back_check bytes) (length out) (length (in_version One bytes)) back_kept
