-- The table, by evaluation.
use mathlib.Core.Path.{refl}
use mathlib.Core.List.{flat_map}
use mathlib.Core.Option.{Option-elim}
use Rattle.game.specs.Network.{climb, used, group_cost, sum_below, whole_cost, members_to}
use Rattle.game.specs.Tree.{has_child, dead_ends, counted_costs}
use Rattle.basics.specs.Bit.{bit}
use Rattle.basics.specs.Sum.{size, entries, total}
use Rattle.game.specs.Group.{words_of}
use Rattle.game.specs.Proposal.{pays}
use Rattle.game.specs.Search.{groups, best, named}
use Rattle.answers.specs.Checks.{one_by_one, tree_check, plain_check, small_check, bits_check, range_check}
use Rattle.answers.specs.DeadEnds.{dead_ends_answer, dead_ends_list}
use Rattle.answers.specs.Members.{member_count_answer, members_answer, members_list}
use Rattle.answers.specs.Needs.{needs_answer, needs_list}
use Rattle.answers.specs.GroupCost.{group_cost_answer}
use Rattle.answers.specs.Audit.{total_answer, search_answer, search_words}
use Rattle.game.specs.Level.{first_least, units, arcs_down}
use Rattle.answers.specs.Level.{split_from, level_answer, level_list}
use Rattle.answers.specs.CapSums.{cap_sums_answer, cap_sums_list}
use Rattle.game.specs.ByArc.{tallied, give_arc, handled}
use Rattle.answers.specs.ByArc.{by_arc_answer, by_arc_list}
use Rattle.game.specs.LevelKeys.{greatest}
use Rattle.game.specs.Branch.{branch_marks}
use Rattle.game.specs.Inward.{inward_within}
use Rattle.game.specs.Margin.{widest}
use Rattle.answers.specs.Margin.{margin_answer, margin_list}
use Rattle.answers.specs.States.{padded, made_state, tree_in, state_check}
use Rattle.answers.specs.Events.{outcome_check, event_check}
use Rattle.answers.specs.Quotes.{ask_answer, asked_shares, commit_check, commit_answer, committed_state}
use Rattle.answers.specs.ParentLists.{precedes, parent_lists, first_after, following, step_answer, step_list}
use Rattle.answers.specs.Classes.{summed_costs, classed_check, joined, classes_answer, classes_list, classes_totals}
use Rattle.answers.specs.Table.{Table}

pub table : Table
unfolding climb used group_cost sum_below whole_cost members_to has_child dead_ends counted_costs bit size entries words_of
    pays groups best named one_by_one tree_check plain_check dead_ends_answer dead_ends_list bits_check range_check
    member_count_answer members_answer members_list needs_answer needs_list group_cost_answer total_answer search_answer
    search_words first_least units arcs_down split_from level_answer level_list tallied give_arc handled by_arc_answer
    by_arc_list cap_sums_answer cap_sums_list padded made_state tree_in state_check outcome_check event_check ask_answer
    asked_shares commit_check commit_answer committed_state greatest branch_marks inward_within widest margin_answer
    margin_list small_check flat_map Option-elim precedes parent_lists first_after following step_answer step_list
    summed_costs classed_check joined total classes_answer classes_list classes_totals
table =
    record {
      T_members = refl;
      T_vertices = refl;
      T_vertices_list = refl;
      T_needs = refl;
      T_needs_list = refl;
      T_cost_of_none = refl;
      T_cost_of_0 = refl;
      T_cost_of_0_1 = refl;
      T_cost_of_1_2 = refl;
      T_7_5_4_total = refl;
      T_7_5_4_search = refl;
      T_7_5_4_words = refl;
      T_8_4_4_total = refl;
      T_8_4_4_search = refl;
      T_8_4_4_words = refl;
      T_8_4_5_total = refl;
      T_8_4_5_search = refl;
      T_8_4_5_words = refl;
      T_less_1_13_4_total = refl;
      T_less_1_13_4_search = refl;
      T_less_1_13_4_words = refl;
      W_7_7_6_total = refl;
      W_7_7_6_search = refl;
      W_7_7_6_words = refl;
      T_level_100 = refl;
      T_level_100_list = refl;
      T_level_3_9_4 = refl;
      T_level_3_9_4_list = refl;
      T_level_3_8_100 = refl;
      T_level_3_8_100_list = refl;
      U_level_3_100 = refl;
      U_level_3_100_list = refl;
      T_floors_7_0_0 = refl;
      T_floors_7_0_0_list = refl;
      T_floors_0_7_0 = refl;
      T_floors_0_7_0_list = refl;
      T_floors_8_0_0 = refl;
      T_floors_8_0_0_list = refl;
      T_floors_0_0_5 = refl;
      T_floors_short = refl;
      T_floor_above_cap = refl;
      T_floor_above_cap_list = refl;
      T_floors_before_caps = refl;
      T_dearer_none_list = refl;
      T_dearer_by_3 = refl;
      T_dearer_by_3_list = refl;
      T_dearer_by_1000_list = refl;
      T_dearer_arc_2_list = refl;
      T_dearer_arc_4_list = refl;
      spare_dearer_list = refl;
      T_by_arc = refl;
      T_by_arc_list = refl;
      U_by_arc = refl;
      U_by_arc_list = refl;
      X_by_arc = refl;
      X_by_arc_list = refl;
      T_margin = refl;
      T_margin_list = refl;
      Y_margin = refl;
      Y_margin_list = refl;
      Z_margin = refl;
      Z_margin_list = refl;
      T_margin_0 = refl;
      T_margin_2 = refl;
      T_margin_5 = refl;
      T_margin_last = refl;
      T_margin_4 = refl;
      T_margin_4_list = refl;
      spare_margin = refl;
      T_level_0 = refl;
      U_level_100_list = refl;
      T_9_9_9_total = refl;
      T_9_9_9_search = refl;
      T_9_9_9_words = refl;
      T_below_0_total = refl;
      T_below_0_search = refl;
      T_below_0_words = refl;
      T_outside_total = refl;
      T_outside_search = refl;
      T_outside_words = refl;
      T_dead_ends = refl;
      T_dead_ends_list = refl;
      T_dead_ends_short = refl;
      T_dead_ends_short_list = refl;
      spare_vertices = refl;
      spare_vertices_list = refl;
      spare_needs = refl;
      spare_needs_list = refl;
      spare_cost_of_0 = refl;
      spare_by_arc = refl;
      spare_by_arc_list = refl;
      spare_level_100 = refl;
      spare_level_100_list = refl;
      mark_2 = refl;
      mark_2_list = refl;
      mark_of_parent = refl;
      no_marks = refl;
      T_cap_sums = refl;
      T_cap_sums_list = refl;
      T_cap_sums_short = refl;
      T_cap_sums_short_list = refl;
      spare_cap_sums = refl;
      spare_cap_sums_list = refl;
      T_made = refl;
      T_ask_leave_3 = refl;
      T_ask_leave_3_shares = refl;
      T_leave_3 = refl;
      T_leave_3_state = refl;
      T_leave_3_again = refl;
      T_leave_3_again_state = refl;
      T_arrive_3 = refl;
      T_arrive_3_state = refl;
      T_untidy_ask_leave_3 = refl;
      T_untidy_leave_3 = refl;
      T_ask_arrive_1 = refl;
      T_ask_arrive_1_shares = refl;
      T_arrive_1 = refl;
      T_arrive_1_state = refl;
      T_arrive_2 = refl;
      T_arrive_0 = refl;
      T_leave_5 = refl;
      T_dearest = refl;
      T_too_dear = refl;
      T_last_leaves = refl;
      T_last_event = refl;
      T_full_up = refl;
      T_full_up_state = refl;
      T_full_up_ask = refl;
      T_full_up_other = refl;
      T_full_up_21 = refl;
      refused_made = refl;
      no_state_ask = refl;
      no_state_commit = refl;
      no_state_other = refl;
      three_arcs = refl;
      step_000 = (refl, refl);
      step_001 = (refl, refl);
      step_002 = (refl, refl);
      step_010 = (refl, refl);
      step_011 = (refl, refl);
      step_012 = (refl, refl);
      step_one_arc = (refl, refl);
      step_carry = (refl, refl);
      step_no_arc = (refl, refl);
      step_seven_arcs = (refl, refl);
      step_own_parent = (refl, refl);
      step_two_faults = (refl, refl);
      step_greatest_entry = (refl, refl);
      T_classes = (refl, (refl, refl));
      U_classes = (refl, (refl, refl));
      T_one_class = (refl, (refl, refl));
      four_classes = (refl, (refl, refl));
      one_unit_more = (refl, (refl, refl));
      no_class = (refl, (refl, refl));
      five_classes = (refl, (refl, refl));
      T_short_classes = (refl, (refl, refl));
      T_classes_short_out = (refl, (refl, refl));
    }
