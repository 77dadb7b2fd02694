-- The table, by evaluation.
use mathlib.Core.Path.{refl}
use Rattle.game.specs.Network.{climb, used, group_cost, sum_below, whole_cost, members_to}
use Rattle.game.specs.Tree.{has_child, dead_ends, counted_costs}
use Rattle.basics.specs.Bit.{bit}
use Rattle.basics.specs.Sum.{size, entries}
use Rattle.game.specs.Group.{words_of}
use Rattle.game.specs.Proposal.{pays}
use Rattle.game.specs.Search.{groups, best, named}
use Rattle.game.specs.Inward.{inward_within}
use Rattle.game.specs.Level.{first_least, units, arcs_down}
use Rattle.game.specs.ByArc.{tallied, give_arc, handled}
use Rattle.answers.specs.Checks.{one_by_one, tree_check, range_check}
use Rattle.answers.specs.Audit.{total_answer, search_answer, search_words}
use Rattle.answers.specs.Level.{split_from, level_answer, level_list}
use Rattle.answers.specs.ByArc.{by_arc_list}
use Rattle.numbers.specs.Signed.{signed64, bits64}
use Rattle.job_bytes.specs.Numbers.{little_endian, in_bytes}
use Rattle.job_bytes.specs.Versions.{version_number, floor_width}
use Rattle.job_bytes.specs.JobBytes.{arc_row, member_row, trailer}
use Rattle.job_bytes.specs.Format.{arc_offset, member_offset, job_arcs, job_members, version}
use Rattle.job_form.specs.Form.{most_bytes_of, form_check, filler_check, fillers_from}
use Rattle.job_checks.specs.JobCheck.{marks_of, shares_check, values_check, job_check}
use Rattle.text.specs.Decimal.{decimal_in, decimal, signed_decimal}
use Rattle.report_lines.specs.Lines.{group_text, member_lines}
use Rattle.report_text.specs.Report.{tree_text, split_text, report_text}
use Rattle.report_text.specs.Table.{ReportTable}

pub table : ReportTable
unfolding climb used group_cost sum_below whole_cost members_to has_child dead_ends counted_costs bit size words_of
    pays groups best named
    first_least units arcs_down tallied give_arc handled one_by_one tree_check range_check total_answer search_answer
    search_words inward_within split_from level_answer level_list by_arc_list little_endian signed64 in_bytes bits64 entries
    arc_row member_row trailer arc_offset member_offset job_arcs job_members version form_check fillers_from shares_check
    version_number floor_width most_bytes_of filler_check marks_of
    values_check job_check decimal_in decimal signed_decimal
    group_text member_lines tree_text split_text report_text
table =
    record {
      T_report = refl;
      off_report = refl;
      T_7_5_4 = refl;
      T_less_1_13_4 = refl;
      T_9_9_9 = refl;
      T_below_0 = refl;
      W_7_7_6 = refl;
      refused_report = refl;
    }
