-- The table of the specification's networks to try (§10): one statement about the answers and lists of the entries.
use Rattle.std.specs.Prelude.{ℕ, ◌-◌, ◌≡◌, List, [], ◌∷◌, length, replicate, pos, negsuc}
use Rattle.answer_forms.specs.Answer.{Answer, value, refusal as no}
use Rattle.answers.specs.Networks.{T, T_marked, T_costing, T_spare, spare_costing_14, U, X, W, Y, Z}
use Rattle.answers.specs.DeadEnds.{dead_ends_answer, dead_ends_list}
use Rattle.answers.specs.Members.{member_count_answer, members_answer, members_list}
use Rattle.answers.specs.Needs.{needs_answer, needs_list}
use Rattle.answers.specs.GroupCost.{group_cost_answer}
use Rattle.answers.specs.Audit.{found, none, total_answer, search_answer, search_words}
use Rattle.answers.specs.Level.{split, refusal, level_answer, level_list}
use Rattle.answers.specs.CapSums.{cap_sums_answer, cap_sums_list}
use Rattle.answers.specs.ByArc.{by_arc_answer, by_arc_list}
use Rattle.answers.specs.Margin.{MarginValue, margin_answer, margin_list}
use Rattle.answers.specs.States.{State, no_state, made_state}
use Rattle.answers.specs.Events.{arrive, leave, new_cost, event_at}
use Rattle.answers.specs.ParentLists.{Step, next, end, parent_lists, step_answer, step_list}
use Rattle.answers.specs.Classes.{Classed, classed_of, classes_answer, classes_list, classes_totals}
use Rattle.answers.specs.Quotes.{Quote, quote_at, ask_answer, asked_shares, commit_answer, committed_state}

-- what the margin entry answers
abbrev pub margin : ℕ → ℕ → MarginValue
margin d users = record { margin = d; users = users }

-- the sixteen words whose first is w and whose others are 0
abbrev pub group : ℕ → List ℕ
group w = w ∷ replicate 15 0

-- caps of 2,000 for n members
abbrev pub ample : ℕ → List ℕ
ample n = replicate n 2000

-- floors of 0 for n members
abbrev pub nothing : ℕ → List ℕ
nothing n = replicate n 0

-- a lent list of n entries, all of them 77, which no row answers
abbrev pub lent : ℕ → List ℕ
lent n = replicate n 77

-- a list of 1,023 entries that ends in zeros
abbrev pub zero_from : ℕ → List ℕ
zero_from i = replicate (1023 - i) 0

-- the state that holds T with these marks and shares, n events committed
abbrev pub T_state : List ℕ → List ℕ → (n : ℕ) → State
T_state marks shares n =
    record {
      arcs = 4;
      parents = 0 ∷ 1 ∷ 1 ∷ 0 ∷ zero_from 4;
      costs = 6 ∷ 1 ∷ 5 ∷ 4 ∷ zero_from 4;
      marks = marks;
      shares = shares;
      committed = n;
    }

-- T's state, and that of T with a spare plot
abbrev pub T_full : ℕ → State
T_full = T_state (0 ∷ 1 ∷ 1 ∷ 1 ∷ zero_from 4) (4 ∷ 8 ∷ 4 ∷ zero_from 3)

abbrev pub T_left : ℕ → State
T_left = T_state (0 ∷ 1 ∷ 0 ∷ 1 ∷ zero_from 4) (7 ∷ 4 ∷ zero_from 2)

-- T's state with other shares, and past arc 4 a mark that is none
abbrev pub T_untidy : ℕ → State
T_untidy = T_state (0 ∷ 1 ∷ 1 ∷ 1 ∷ 9 ∷ zero_from 5) (lent 1023)

-- a quote for leaving or arriving at a vertex, with n events committed
abbrev pub leaving : (v n : ℕ) → Quote
leaving v = quote_at (event_at v leave)

abbrev pub arriving : (v n : ℕ) → Quote
arriving v = quote_at (event_at v arrive)

-- a step from one parent list to another, and one that leaves the list as it came
abbrev pub Steps : List ℕ → List ℕ → Type 0
Steps l l' = (step_answer l ≡ value next) × (step_list l ≡ l')

abbrev pub Stays : List ℕ → Answer Step → Type 0
Stays l answered = (step_answer l ≡ answered) × (step_list l ≡ l)

-- the parents of three arcs
abbrev pub three : ℕ → ℕ → ℕ → List ℕ
three a b c = a ∷ b ∷ c ∷ []

-- a split in classes: the members, the shares and the totals
abbrev pub SplitInto : Classed → ℕ → List ℕ → List ℕ → Type 0
SplitInto w members shares totals =
    (classes_answer w (lent (length shares)) ≡ value members)
    × ((classes_list w (lent (length shares)) ≡ shares) × (classes_totals w (lent (length shares)) ≡ totals))

-- one that is refused: the lent list stays, and the totals are 0
abbrev pub NotSplit : Classed → List ℕ → (number place : ℕ) → Type 0
NotSplit w out number place =
    (classes_answer w out ≡ no number place) × ((classes_list w out ≡ out) × (classes_totals w out ≡ replicate 8 0))

-- T in so many classes, and a tree of one arc
abbrev pub T_in : ℕ → List ℕ → Classed
T_in classes costs = classed_of T.parents costs T.marks classes

abbrev pub one_arc_in : ℕ → List ℕ → Classed
one_arc_in classes costs = classed_of (0 ∷ []) costs (1 ∷ []) classes

pub record Table : Type 0 where
  pub T_members : member_count_answer T ≡ value 3
  pub T_vertices : members_answer T (lent 3) ≡ value 3
  pub T_vertices_list : members_list T (lent 3) ≡ 2 ∷ 3 ∷ 4 ∷ []
  pub T_needs : needs_answer T (lent 4) ≡ value (record { whole = 16; members = 3 })
  pub T_needs_list : needs_list T (lent 4) ≡ 12 ∷ 1 ∷ 5 ∷ 4 ∷ []
  pub T_cost_of_none : group_cost_answer T (group 0) ≡ value (record { size = 0; cost = 0 })
  pub T_cost_of_0 : group_cost_answer T (group 1) ≡ value (record { size = 1; cost = 7 })
  pub T_cost_of_0_1 : group_cost_answer T (group 3) ≡ value (record { size = 2; cost = 12 })
  pub T_cost_of_1_2 : group_cost_answer T (group 6) ≡ value (record { size = 2; cost = 15 })
  pub T_7_5_4_total : total_answer T (pos 7 ∷ pos 5 ∷ pos 4 ∷ []) ≡ value (pos 0)
  pub T_7_5_4_search : search_answer T (pos 7 ∷ pos 5 ∷ pos 4 ∷ []) ≡ value none
  pub T_7_5_4_words : search_words T (pos 7 ∷ pos 5 ∷ pos 4 ∷ []) ≡ group 0
  pub T_8_4_4_total : total_answer T (pos 8 ∷ pos 4 ∷ pos 4 ∷ []) ≡ value (pos 0)
  pub T_8_4_4_search : search_answer T (pos 8 ∷ pos 4 ∷ pos 4 ∷ []) ≡ value (found 1 1)
  pub T_8_4_4_words : search_words T (pos 8 ∷ pos 4 ∷ pos 4 ∷ []) ≡ group 1
  pub T_8_4_5_total : total_answer T (pos 8 ∷ pos 4 ∷ pos 5 ∷ []) ≡ value (pos 1)
  pub T_8_4_5_search : search_answer T (pos 8 ∷ pos 4 ∷ pos 5 ∷ []) ≡ value (found 2 2)
  pub T_8_4_5_words : search_words T (pos 8 ∷ pos 4 ∷ pos 5 ∷ []) ≡ group 5
  pub T_less_1_13_4_total : total_answer T (negsuc 0 ∷ pos 13 ∷ pos 4 ∷ []) ≡ value (pos 0)
  pub T_less_1_13_4_search : search_answer T (negsuc 0 ∷ pos 13 ∷ pos 4 ∷ []) ≡ value (found 2 1)
  pub T_less_1_13_4_words : search_words T (negsuc 0 ∷ pos 13 ∷ pos 4 ∷ []) ≡ group 2
  pub W_7_7_6_total : total_answer W (pos 7 ∷ pos 7 ∷ pos 6 ∷ []) ≡ value (pos 0)
  pub W_7_7_6_search : search_answer W (pos 7 ∷ pos 7 ∷ pos 6 ∷ []) ≡ value (found 2 2)
  pub W_7_7_6_words : search_words W (pos 7 ∷ pos 7 ∷ pos 6 ∷ []) ≡ group 3
  pub T_level_100 : level_answer T (100 ∷ 100 ∷ 100 ∷ []) (nothing 3) (lent 3) ≡ split 3
  pub T_level_100_list : level_list T (100 ∷ 100 ∷ 100 ∷ []) (nothing 3) (lent 3) ≡ 6 ∷ 6 ∷ 4 ∷ []
  pub T_level_3_9_4 : level_answer T (3 ∷ 9 ∷ 4 ∷ []) (nothing 3) (lent 3) ≡ split 3
  pub T_level_3_9_4_list : level_list T (3 ∷ 9 ∷ 4 ∷ []) (nothing 3) (lent 3) ≡ 3 ∷ 9 ∷ 4 ∷ []
  pub T_level_3_8_100 : level_answer T (3 ∷ 8 ∷ 100 ∷ []) (nothing 3) (lent 3) ≡ refusal 9 1 1
  pub T_level_3_8_100_list : level_list T (3 ∷ 8 ∷ 100 ∷ []) (nothing 3) (lent 3) ≡ lent 3
  pub U_level_3_100 : level_answer U (3 ∷ 100 ∷ []) (nothing 2) (lent 2) ≡ split 2
  pub U_level_3_100_list : level_list U (3 ∷ 100 ∷ []) (nothing 2) (lent 2) ≡ 3 ∷ 4 ∷ []
  -- floors
  pub T_floors_7_0_0 : level_answer T (100 ∷ 100 ∷ 100 ∷ []) (7 ∷ 0 ∷ 0 ∷ []) (lent 3) ≡ split 3
  pub T_floors_7_0_0_list : level_list T (100 ∷ 100 ∷ 100 ∷ []) (7 ∷ 0 ∷ 0 ∷ []) (lent 3) ≡ 7 ∷ 5 ∷ 4 ∷ []
  pub T_floors_0_7_0 : level_answer T (100 ∷ 100 ∷ 100 ∷ []) (0 ∷ 7 ∷ 0 ∷ []) (lent 3) ≡ split 3
  pub T_floors_0_7_0_list : level_list T (100 ∷ 100 ∷ 100 ∷ []) (0 ∷ 7 ∷ 0 ∷ []) (lent 3) ≡ 5 ∷ 7 ∷ 4 ∷ []
  pub T_floors_8_0_0 : level_answer T (100 ∷ 100 ∷ 100 ∷ []) (8 ∷ 0 ∷ 0 ∷ []) (lent 3) ≡ refusal 28 1 0
  pub T_floors_8_0_0_list : level_list T (100 ∷ 100 ∷ 100 ∷ []) (8 ∷ 0 ∷ 0 ∷ []) (lent 3) ≡ lent 3
  pub T_floors_0_0_5 : level_answer T (100 ∷ 100 ∷ 100 ∷ []) (0 ∷ 0 ∷ 5 ∷ []) (lent 3) ≡ refusal 28 4 0
  pub T_floors_short : level_answer T (4 ∷ 7 ∷ 4 ∷ []) (0 ∷ 7 ∷ 0 ∷ []) (lent 3) ≡ refusal 9 1 1
  pub T_floor_above_cap : level_answer T (2 ∷ 100 ∷ 100 ∷ []) (3 ∷ 0 ∷ 0 ∷ []) (lent 3) ≡ refusal 27 0 0
  pub T_floor_above_cap_list : level_list T (2 ∷ 100 ∷ 100 ∷ []) (3 ∷ 0 ∷ 0 ∷ []) (lent 3) ≡ lent 3
  -- 28 at arc 4 before 9 at arc 3
  pub T_floors_before_caps : level_answer T (0 ∷ 0 ∷ 5 ∷ []) (0 ∷ 0 ∷ 5 ∷ []) (lent 3) ≡ refusal 28 4 0
  -- T with a dearer arc, under caps of 2,000: arc 1, which members 0 and 1 use; arc 2, which member 0 alone uses, and yet
  -- the share of member 1 rises; arc 4, and one share takes all of it; an arc that nobody uses, and no share rises
  pub T_dearer_none_list : level_list T (ample 3) (nothing 3) (lent 3) ≡ 6 ∷ 6 ∷ 4 ∷ []
  pub T_dearer_by_3 : level_answer (T_costing 9 1 5 4) (ample 3) (nothing 3) (lent 3) ≡ split 3
  pub T_dearer_by_3_list : level_list (T_costing 9 1 5 4) (ample 3) (nothing 3) (lent 3) ≡ 8 ∷ 7 ∷ 4 ∷ []
  pub T_dearer_by_1000_list : level_list (T_costing 1006 1 5 4) (ample 3) (nothing 3) (lent 3) ≡ 506 ∷ 506 ∷ 4 ∷ []
  pub T_dearer_arc_2_list : level_list (T_costing 6 3 5 4) (ample 3) (nothing 3) (lent 3) ≡ 7 ∷ 7 ∷ 4 ∷ []
  pub T_dearer_arc_4_list : level_list (T_costing 6 1 5 7) (ample 3) (nothing 3) (lent 3) ≡ 6 ∷ 6 ∷ 7 ∷ []
  pub spare_dearer_list : level_list spare_costing_14 (ample 2) (nothing 2) (lent 2) ≡ 7 ∷ 4 ∷ []
  pub T_by_arc : by_arc_answer T (lent 3) ≡ value 3
  pub T_by_arc_list : by_arc_list T (lent 3) ≡ 4 ∷ 8 ∷ 4 ∷ []
  pub U_by_arc : by_arc_answer U (lent 2) ≡ value 2
  pub U_by_arc_list : by_arc_list U (lent 2) ≡ 4 ∷ 3 ∷ []
  pub X_by_arc : by_arc_answer X (lent 2) ≡ value 2
  pub X_by_arc_list : by_arc_list X (lent 2) ≡ 1 ∷ 1 ∷ []
  pub T_margin : margin_answer T 1 (lent 2) ≡ value (margin 3 2)
  pub T_margin_list : margin_list T 1 (lent 2) ≡ 4 ∷ 8 ∷ []
  pub Y_margin : margin_answer Y 1 (lent 3) ≡ value (margin 2 3)
  pub Y_margin_list : margin_list Y 1 (lent 3) ≡ 4 ∷ 5 ∷ 5 ∷ []
  pub Z_margin : margin_answer Z 1 (lent 2) ≡ value (margin 0 2)
  pub Z_margin_list : margin_list Z 1 (lent 2) ≡ 5 ∷ 0 ∷ []
  pub T_margin_0 : margin_answer T 0 (lent 2) ≡ no 25 0
  pub T_margin_2 : margin_answer T 2 (lent 2) ≡ no 25 2
  pub T_margin_5 : margin_answer T 5 (lent 2) ≡ no 25 5
  pub T_margin_last : margin_answer T 18446744073709551615 (lent 2) ≡ no 25 18446744073709551615
  pub T_margin_4 : margin_answer T 4 (lent 1) ≡ no 26 4
  pub T_margin_4_list : margin_list T 4 (lent 1) ≡ lent 1
  pub spare_margin : margin_answer T_spare 1 (lent 1) ≡ no 26 1
  -- beyond the specification's rows: every arc is short, and a rest of 1 between two users
  pub T_level_0 : level_answer T (0 ∷ 0 ∷ 0 ∷ []) (nothing 3) (lent 3) ≡ refusal 9 4 4
  pub U_level_100_list : level_list U (100 ∷ 100 ∷ []) (nothing 2) (lent 2) ≡ 4 ∷ 3 ∷ []
  -- the whole membership, a difference without a group, and a refusal
  pub T_9_9_9_total : total_answer T (pos 9 ∷ pos 9 ∷ pos 9 ∷ []) ≡ value (pos 11)
  pub T_9_9_9_search : search_answer T (pos 9 ∷ pos 9 ∷ pos 9 ∷ []) ≡ value (found 11 3)
  pub T_9_9_9_words : search_words T (pos 9 ∷ pos 9 ∷ pos 9 ∷ []) ≡ group 7
  pub T_below_0_total : total_answer T (negsuc 0 ∷ negsuc 0 ∷ negsuc 0 ∷ []) ≡ value (negsuc 18)
  pub T_below_0_search : search_answer T (negsuc 0 ∷ negsuc 0 ∷ negsuc 0 ∷ []) ≡ value none
  pub T_below_0_words : search_words T (negsuc 0 ∷ negsuc 0 ∷ negsuc 0 ∷ []) ≡ group 0
  pub T_outside_total : total_answer T (pos 8 ∷ pos 4 ∷ pos 2000000000001 ∷ []) ≡ no 7 2
  pub T_outside_search : search_answer T (pos 8 ∷ pos 4 ∷ pos 2000000000001 ∷ []) ≡ no 7 2
  pub T_outside_words : search_words T (pos 8 ∷ pos 4 ∷ pos 2000000000001 ∷ []) ≡ group 0
  -- marks
  pub T_dead_ends : dead_ends_answer T.parents T.costs (lent 4) ≡ value 3
  pub T_dead_ends_list : dead_ends_list T.parents T.costs (lent 4) ≡ 0 ∷ 1 ∷ 1 ∷ 1 ∷ []
  pub T_dead_ends_short : dead_ends_answer T.parents T.costs (lent 3) ≡ no 8 0
  pub T_dead_ends_short_list : dead_ends_list T.parents T.costs (lent 3) ≡ lent 3
  pub spare_vertices : members_answer T_spare (lent 2) ≡ value 2
  pub spare_vertices_list : members_list T_spare (lent 2) ≡ 2 ∷ 4 ∷ []
  pub spare_needs : needs_answer T_spare (lent 4) ≡ value (record { whole = 11; members = 2 })
  pub spare_needs_list : needs_list T_spare (lent 4) ≡ 7 ∷ 1 ∷ 0 ∷ 4 ∷ []
  pub spare_cost_of_0 : group_cost_answer T_spare (group 1) ≡ value (record { size = 1; cost = 7 })
  pub spare_by_arc : by_arc_answer T_spare (lent 2) ≡ value 2
  pub spare_by_arc_list : by_arc_list T_spare (lent 2) ≡ 7 ∷ 4 ∷ []
  pub spare_level_100 : level_answer T_spare (100 ∷ 100 ∷ []) (nothing 2) (lent 2) ≡ split 2
  pub spare_level_100_list : level_list T_spare (100 ∷ 100 ∷ []) (nothing 2) (lent 2) ≡ 7 ∷ 4 ∷ []
  pub mark_2 : members_answer (T_marked 0 1 2 1) (lent 2) ≡ no 16 3
  pub mark_2_list : members_list (T_marked 0 1 2 1) (lent 2) ≡ lent 2
  pub mark_of_parent : members_answer (T_marked 1 1 2 1) (lent 3) ≡ no 17 1
  pub no_marks : members_answer (T_marked 0 0 0 0) (lent 4) ≡ no 18 0
  -- running sums of caps
  pub T_cap_sums : cap_sums_answer T (3 ∷ 9 ∷ 4 ∷ []) (lent 4) ≡ value 16
  pub T_cap_sums_list : cap_sums_list T (3 ∷ 9 ∷ 4 ∷ []) (lent 4) ≡ 12 ∷ 3 ∷ 9 ∷ 4 ∷ []
  pub T_cap_sums_short : cap_sums_answer T (3 ∷ 9 ∷ 4 ∷ []) (lent 3) ≡ no 8 0
  pub T_cap_sums_short_list : cap_sums_list T (3 ∷ 9 ∷ 4 ∷ []) (lent 3) ≡ lent 3
  pub spare_cap_sums : cap_sums_answer T_spare (3 ∷ 4 ∷ []) (lent 4) ≡ value 7
  pub spare_cap_sums_list : cap_sums_list T_spare (3 ∷ 4 ∷ []) (lent 4) ≡ 3 ∷ 3 ∷ 0 ∷ 4 ∷ []
  -- states, askings and commits
  pub T_made : made_state T 0 ≡ T_full 0
  pub T_ask_leave_3 : ask_answer (T_full 0) (event_at 3 leave) ≡ value (record { members = 2; quote = leaving 3 0 })
  pub T_ask_leave_3_shares : asked_shares (T_full 0) (event_at 3 leave) ≡ 7 ∷ 4 ∷ zero_from 2
  pub T_leave_3 : commit_answer (T_full 0) (leaving 3 0) ≡ value 2
  pub T_leave_3_state : committed_state (T_full 0) (leaving 3 0) ≡ T_left 1
  pub T_leave_3_again : commit_answer (T_left 1) (leaving 3 0) ≡ no 23 0
  pub T_leave_3_again_state : committed_state (T_left 1) (leaving 3 0) ≡ T_left 1
  pub T_arrive_3 : commit_answer (T_left 1) (arriving 3 1) ≡ value 3
  pub T_arrive_3_state : committed_state (T_left 1) (arriving 3 1) ≡ T_full 2
  pub T_untidy_ask_leave_3 : asked_shares (T_untidy 7) (event_at 3 leave) ≡ 7 ∷ 4 ∷ zero_from 2
  pub T_untidy_leave_3 : committed_state (T_untidy 7) (leaving 3 7) ≡ T_left 8
  pub T_ask_arrive_1 : ask_answer (T_untidy 7) (event_at 1 arrive) ≡ no 17 1
  pub T_ask_arrive_1_shares : asked_shares (T_untidy 7) (event_at 1 arrive) ≡ zero_from 0
  pub T_arrive_1 : commit_answer (T_untidy 7) (arriving 1 7) ≡ no 17 1
  pub T_arrive_1_state : committed_state (T_untidy 7) (arriving 1 7) ≡ T_untidy 7
  pub T_arrive_2 : commit_answer (T_full 0) (arriving 2 0) ≡ no 22 2
  pub T_arrive_0 : commit_answer (T_full 0) (arriving 0 0) ≡ no 21 0
  pub T_leave_5 : commit_answer (T_full 0) (leaving 5 0) ≡ no 21 5
  pub T_dearest : commit_answer (T_full 0) (quote_at (event_at 3 (new_cost 1000000000)) 0) ≡ value 3
  pub T_too_dear : commit_answer (T_full 0) (quote_at (event_at 3 (new_cost 1000000001)) 0) ≡ no 4 3
  pub T_last_leaves : commit_answer (T_state (0 ∷ 1 ∷ 0 ∷ 0 ∷ zero_from 4) (zero_from 0) 0) (leaving 2 0) ≡ no 18 0
  -- the last event that there may be, and one more; the quote's number comes first, then 24, then all else
  pub T_last_event : committed_state (T_full 999999) (leaving 3 999999) ≡ T_left 1000000
  pub T_full_up : commit_answer (T_left 1000000) (arriving 3 1000000) ≡ no 24 0
  pub T_full_up_state : committed_state (T_left 1000000) (arriving 3 1000000) ≡ T_left 1000000
  pub T_full_up_ask : asked_shares (T_left 1000000) (event_at 3 arrive) ≡ 4 ∷ 8 ∷ 4 ∷ zero_from 3
  pub T_full_up_other : commit_answer (T_left 1000000) (arriving 3 999999) ≡ no 23 0
  pub T_full_up_21 : commit_answer (T_left 1000000) (leaving 0 1000000) ≡ no 24 0
  pub refused_made : made_state (T_marked 0 0 0 0) 0 ≡ no_state
  pub no_state_ask : ask_answer no_state (event_at 1 arrive) ≡ no 1 0
  pub no_state_commit : commit_answer no_state (arriving 1 0) ≡ no 1 0
  pub no_state_other : commit_answer no_state (arriving 1 1) ≡ no 23 0
  -- all parent lists
  pub three_arcs : parent_lists 3
      ≡ three 0 0 0 ∷ three 0 0 1 ∷ three 0 0 2 ∷ three 0 1 0 ∷ three 0 1 1 ∷ three 0 1 2 ∷ []
  pub step_000 : Steps (three 0 0 0) (three 0 0 1)
  pub step_001 : Steps (three 0 0 1) (three 0 0 2)
  pub step_002 : Steps (three 0 0 2) (three 0 1 0)
  pub step_010 : Steps (three 0 1 0) (three 0 1 1)
  pub step_011 : Steps (three 0 1 1) (three 0 1 2)
  pub step_012 : Stays (three 0 1 2) (value end)
  pub step_one_arc : Stays (0 ∷ []) (value end)
  pub step_carry : Steps (0 ∷ 0 ∷ 2 ∷ 3 ∷ 4 ∷ []) (0 ∷ 1 ∷ 0 ∷ 0 ∷ 0 ∷ [])
  pub step_no_arc : Stays [] (no 31 0)
  -- 31 before 3, and 3 at the lowest arc
  pub step_seven_arcs : Stays (lent 7) (no 31 0)
  pub step_own_parent : Stays (1 ∷ []) (no 3 1)
  pub step_two_faults : Stays (0 ∷ 1 ∷ 3 ∷ 3 ∷ 5 ∷ []) (no 3 3)
  pub step_greatest_entry : Stays (0 ∷ 65535 ∷ []) (no 3 2)
  -- cost classes
  pub T_classes : SplitInto (T_in 2 (1 ∷ 1 ∷ 0 ∷ 4 ∷ 5 ∷ 0 ∷ 5 ∷ 0 ∷ [])) 3 (2 ∷ 0 ∷ 4 ∷ 3 ∷ 7 ∷ 0 ∷ [])
      (6 ∷ 10 ∷ 0 ∷ 0 ∷ 6 ∷ 10 ∷ 0 ∷ 0 ∷ [])
  -- the tallies of the second class start at 0
  pub U_classes : SplitInto (classed_of U.parents (7 ∷ 0 ∷ 0 ∷ 7 ∷ 0 ∷ 0 ∷ []) U.marks 2) 2
      (4 ∷ 3 ∷ 4 ∷ 3 ∷ []) (7 ∷ 7 ∷ 0 ∷ 0 ∷ 7 ∷ 7 ∷ 0 ∷ 0 ∷ [])
  pub T_one_class : SplitInto (T_in 1 T.costs) 3 (4 ∷ 8 ∷ 4 ∷ []) (16 ∷ 0 ∷ 0 ∷ 0 ∷ 16 ∷ 0 ∷ 0 ∷ 0 ∷ [])
  pub four_classes : SplitInto (one_arc_in 4 (replicate 4 250000000)) 1 (replicate 4 250000000) (replicate 8 250000000)
  pub one_unit_more : NotSplit (one_arc_in 4 (250000001 ∷ replicate 3 250000000)) (lent 4) 4 1
  pub no_class : NotSplit (classed_of [] [] [] 0) (lent 3) 32 0
  pub five_classes : NotSplit (one_arc_in 5 (replicate 5 0)) (lent 5) 32 0
  pub T_short_classes : NotSplit (T_in 2 (replicate 7 0)) (lent 6) 2 0
  pub T_classes_short_out : NotSplit (T_in 2 (replicate 8 0)) (lent 3) 8 0
