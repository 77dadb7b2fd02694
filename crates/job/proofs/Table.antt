-- The table, by evaluation.
use mathlib.Core.Path.{refl}
use Rattle.basics.specs.Sum.{entries}
use Rattle.game.specs.Tree.{has_child, dead_ends}
use Rattle.answers.specs.Checks.{one_by_one, tree_check, plain_check, range_check}
use Rattle.numbers.specs.Signed.{signed64, bits64}
use Rattle.job_bytes.specs.Numbers.{little_endian, in_bytes}
use Rattle.job_bytes.specs.Versions.{version_number, floor_width}
use Rattle.job_bytes.specs.JobBytes.{arc_row, member_row, rows, trailer, job_bytes}
use Rattle.job_bytes.specs.Format.{arc_offset, member_offset, job_arcs, job_members, version}
use Rattle.job_form.specs.Form.{most_bytes_of, form_check, filler_check, fillers_from}
use Rattle.job_checks.specs.JobCheck.{room_check, marks_of, shares_check, values_check, job_check}
use Rattle.job.specs.Reader.{read_check, job_answer, job_lists}
use Rattle.job.specs.Writer.{contents_check, length_answer, write_check, write_answer, write_output}
use Rattle.job.specs.Table.{JobTable}

pub table : JobTable
unfolding has_child dead_ends one_by_one tree_check range_check little_endian signed64 bits64 in_bytes entries
    arc_row member_row trailer arc_offset member_offset
    job_arcs job_members version form_check fillers_from shares_check values_check job_check read_check job_answer job_lists
    plain_check rows job_bytes version_number floor_width most_bytes_of filler_check marks_of room_check
    contents_check length_answer write_check write_answer write_output
table =
    record {
      T_size = refl;
      T_read = refl;
      T_lists = refl;
      noted_read = refl;
      noted_proposals = refl;
      fewer_members = (refl, refl);
      order_10 = (refl, refl);
      order_11_short = (refl, refl);
      order_11_long = (refl, refl);
      order_12 = (refl, refl);
      order_13 = (refl, refl);
      order_14 = (refl, refl);
      order_3 = (refl, refl);
      order_4 = (refl, refl);
      order_3_next = (refl, refl);
      order_15 = (refl, refl);
      order_7_caps = (refl, refl);
      order_7_proposals = (refl, refl);
      order_read = refl;
      many_14 = (refl, refl);
      many_1 = refl;
      none_1 = (refl, refl);
      T_made = refl;
      T_asked = refl;
      T_written = refl;
      T_exact = refl;
      T_longer = refl;
      negative_row = refl;
      write_1 = (refl, refl);
      write_2 = (refl, refl);
      write_3 = (refl, refl);
      write_4 = (refl, refl);
      write_3_next = (refl, refl);
      write_6_caps = (refl, refl);
      write_7_caps = (refl, refl);
      write_6_proposals = (refl, refl);
      write_7_proposals = (refl, refl);
      write_19 = (refl, refl);
      write_20 = (refl, refl);
      write_ok = refl;
    }
