-- The table, by evaluation.
use mathlib.Core.Path.{refl}
use Rattle.basics.specs.Sum.{entries}
use Rattle.game.specs.Tree.{has_child, dead_ends}
use Rattle.answers.specs.Checks.{one_by_one, tree_check, range_check}
use Rattle.numbers.specs.Signed.{signed64, bits64}
use Rattle.job_bytes.specs.Numbers.{little_endian, in_bytes}
use Rattle.job_bytes.specs.Versions.{version_number, floor_width}
use Rattle.job_bytes.specs.JobBytes.{arc_row, member_row, rows, trailer, job_bytes}
use Rattle.job_bytes.specs.Format.{arc_offset, member_offset, job_arcs, job_members, version}
use Rattle.job_form.specs.Form.{most_bytes_of, form_check, filler_check, fillers_from}
use Rattle.job_checks.specs.JobCheck.{room_check, marks_of, shares_check, values_check, job_check}
use Rattle.job.specs.Reader.{read_check, job_answer}
use Rattle.job2.specs.Reader.{read2_check, job2_answer, job2_lists}
use Rattle.job2.specs.Converter.{other, fillers_in, in_version, unmarked_check, floored_check, back_check}
use Rattle.job2.specs.Converter.{to2_check, to2_answer, to2_output, to1_check, to1_answer, to1_output}
use Rattle.job2.specs.Table.{Job2Table}

pub table2 : Job2Table
unfolding has_child dead_ends one_by_one tree_check range_check little_endian signed64 bits64 in_bytes entries
    arc_row member_row rows trailer job_bytes version_number floor_width arc_offset member_offset job_arcs job_members version
    most_bytes_of form_check filler_check fillers_from room_check marks_of shares_check values_check job_check read_check job_answer
    read2_check job2_answer job2_lists in_version fillers_in other unmarked_check floored_check back_check to2_check to2_answer
    to2_output to1_check to1_answer to1_output
table2 =
    record {
      T2_size = refl;
      T2_read = refl;
      T2_lists = refl;
      spare_read = refl;
      order_10 = (refl, refl);
      order_11_short = (refl, refl);
      order_11_long = (refl, refl);
      order_12 = (refl, refl);
      order_13 = (refl, refl);
      order_16 = (refl, refl);
      order_3 = (refl, refl);
      order_4 = (refl, refl);
      order_17 = (refl, refl);
      order_3_next = (refl, refl);
      order_18 = (refl, refl);
      order_15 = (refl, refl);
      order_7_caps = (refl, refl);
      order_7_proposals = (refl, refl);
      order_7_floors = (refl, refl);
      order_27 = (refl, refl);
      order_read = refl;
      none_1 = (refl, refl);
      T_by_2 = (refl, refl);
      T2_by_1 = refl;
      T_to_2 = refl;
      T_in_2 = refl;
      to_2_15 = (refl, refl);
      to_2_20 = (refl, refl);
      T2_to_1 = refl;
      T2_in_1 = refl;
      to_1_27 = (refl, refl);
      to_1_29 = (refl, refl);
      to_1_30 = (refl, refl);
      to_1_20 = (refl, refl);
    }
