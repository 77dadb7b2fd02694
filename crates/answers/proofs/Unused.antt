-- Nobody pays for an arc that nobody uses.
use Prim.Native.Nat.{ℕ}
use mathlib.Core.Path.{◌≡◌, sym, ap, ap₂, ◌∙◌}
use mathlib.Core.Bool.{true, false, not, ◌&&◌}
use mathlib.Core.Logic.{⊎_elim}
use mathlib.Core.List.{List}
use native.Mathlib.Nat.{zero-div, zero-mod}
use native.Mathlib.Omega.{arith}
use borrow.Author.Tests.{le-ltb}
use lib.ListN.{length}
use lib.IntN.{ℤ}
use lib.Dec.{eqb, leb, ltb}
use Rattle.basics.specs.Sum.{pick, list, size}
use Rattle.basics.specs.Bit.{bit}
use Rattle.basics.proofs.Bools.{both, pick_same}
use Rattle.basics.proofs.Sums.{In}
use Rattle.basics.proofs.Lists.{list_cong}
use Rattle.game.specs.Network.{Network, climb, used, everyone, group_cost, need, whole_cost, member_count, members}
use Rattle.game.specs.Tree.{Tree, tree_of, of_arc, network_of, counted, counted_costs, network}
use Rattle.game.specs.Core.{users}
use Rattle.game.specs.ByArc.{user_count, rank, tallies_at, by_arc}
use Rattle.game.specs.Branch.{branch_marks, branch}
use Rattle.game.specs.Margin.{widest, shares_at}
use Rattle.game.specs.Level.{units}
use Rattle.game.specs.Group.{words_of, group_by_number}
use Rattle.game.specs.Proposal.{difference}
use Rattle.game.specs.Search.{is_in, named}
use Rattle.game.specs.Inward.{amount_of}
use Rattle.game.specs.Floors.{adjusted}
use Rattle.game.proofs.Unused.{unused_need}
use Rattle.game.proofs.Adjusted.{adjusted_limit}
use Rattle.game.proofs.Branch.{branch_used}
use Rattle.game.proofs.Counted.{unused_free}
use Rattle.answer_forms.specs.Answer.{Check, Answer, fault, answer, written, ◌then◌}
use Rattle.answers.specs.Checks.{tree_check, group_check, output_check, proposal_check}
use Rattle.answers.specs.Members.{member_count_answer, members_answer, members_list}
use Rattle.answers.specs.Needs.{needs_answer, needs_list}
use Rattle.answers.specs.GroupCost.{group_cost_answer}
use Rattle.answers.specs.Audit.{Verdict, search_verdict, words_beside, total_answer, search_answer, search_words}
use Rattle.answers.specs.Level.{LevelAnswer, caps_check, limits_check, split_from, level_or, list_after}
use Rattle.answers.specs.Level.{level_shares, level_answer, level_list}
use Rattle.answers.specs.CapSums.{running_sum, all_caps, cap_sums_answer, cap_sums_list}
use Rattle.answers.specs.ByArc.{by_arc_answer, by_arc_list}
use Rattle.answers.specs.Margin.{branch_at, margin_answer, margin_list}
use Rattle.answers.specs.States.{padded, made_state}
use Rattle.answers.specs.Unused.{UnusedStatement, DifferUnused, StubStatement}
use Rattle.answers.proofs.Accepted.{tree_accepted}
use Rattle.answers.proofs.CoreLaws.{members_end}
use Rattle.answers.proofs.RunningSums.{cap_sum_unused}

pub unused_laws : UnusedStatement
unfolding units
unused_laws t ok k arc unused =
    record {
      no_need = unused_need n (tree_accepted t ok).rooted k unused (unused_free t);
      no_gift =
          λ j.
          rw (free, zero-div, zero-mod, le-ltb (rank n k (tallies_at n k) j) 0 (omega arith))
          (⊎_elim
          (λ (u : users n k j ≡ true). rw u (omega arith))
          (λ (u : users n k j ≡ false). rw u (omega arith))
          (both (users n k j)));
      no_adjusted = without;
      no_unit = λ caps floors shares.
          ap (λ (c : ℕ). units n caps k c shares) (no_amount floors);
    }
  where
    n : Network
    n = network t

    without : (floors : List ℕ) → adjusted n floors k ≡ 0
    without floors =
        let tree = tree_accepted t ok in
        omega (
          arith,
          adjusted_limit n tree.rooted (members_end t tree) floors k (omega (arith, arc.first, arc.last)),
          unused_need n tree.rooted k unused (unused_free t),
          cap_sum_unused n floors k unused,
        )

    no_amount : (floors : List ℕ) → amount_of n (adjusted n floors) k ≡ 0
    no_amount floors = omega (arith, without floors)

    free : (network t).cost k ≡ 0
    free = unused_free t k (record { low = arc.first; high = arc.last }) unused

-- costs that agree where an arc is used
module _ (ps cs ds ms : List ℕ)
    (agree : (k : ℕ) → In (length ps) k → used (network (tree_of ps cs ms)) everyone k ≡ true → of_arc cs k ≡ of_arc ds k)
  where
    counted_same : (k : ℕ) → In (length ps) k → counted (network_of ps cs ms) k ≡ counted (network_of ps ds ms) k
    unfolding used
    counted_same k i = pick_same (used (network_of ps cs ms) everyone k) (λ u. agree k i u)

    network_same : network (tree_of ps cs ms) ≡ network (tree_of ps ds ms)
    unfolding counted_costs
    network_same =
        ap (λ (l : List ℕ). network_of ps l ms) (list_cong (length ps) counted_same)

module _ (s t : Tree) (differ : DifferUnused s t) where
  -- the first tree with the lists of the second
  moved : network s ≡ network (tree_of t.parents s.costs t.marks)
  moved =
      ap₂ (λ (ps ms : List ℕ). network (tree_of ps s.costs ms)) differ.same_parents differ.same_marks

  pub same_network : network s ≡ network t
  same_network =
      moved
      ∙ network_same t.parents s.costs t.costs t.marks
      (λ k i u.
      differ.same_used k
      (omega (arith, ap length differ.same_parents, i.low, i.high))
      (ap (λ (n : Network). used n everyone k) moved ∙ u))

-- their branches differ only so too
branches_differ : (s t : Tree) → length s.marks ≡ length s.parents → DifferUnused s t → (b : ℕ)
    → DifferUnused (branch s b) (branch t b)
unfolding branch_marks
branches_differ s t sized differ b =
    record {
      same_parents = differ.same_parents;
      same_marks =
          ap₂
          (λ (ps ms : List ℕ). list (length ps) (λ v. pick (climb (of_arc ps) b v v) (of_arc ms v)))
          differ.same_parents differ.same_marks;
      same_used = λ k i u.
          differ.same_used k (record { first = i.first; last = i.last }) (branch_used s sized b k u);
    }

pub stubs_free : StubStatement
unfolding member_count_answer members_answer members_list needs_answer needs_list group_cost_answer total_answer search_answer
    search_words level_answer level_list cap_sums_answer cap_sums_list by_arc_answer by_arc_list margin_answer margin_list made_state
stubs_free s t s_ok t_ok differ =
    record {
      check = check;
      count = by_both (λ c n. answer c (member_count n));
      members = λ out. by_both (λ c n. answer (c then output_check (member_count n) out) (member_count n));
      members_list_same = λ out. by_both (λ c n. written (c then output_check (member_count n) out) out (members n));
      needs = λ out.
          by_both
          (λ c n. answer (c then output_check n.arcs out) (record { whole = whole_cost n; members = member_count n }));
      needs_list_same = λ out.
          by_both (λ c n. written (c then output_check n.arcs out) out (list n.arcs (need n)));
      group_cost_same = λ words.
          by_both
          (λ c n.
          answer (c then group_check (member_count n) words)
          (record { size = size (member_count n) (bit words); cost = group_cost n (group_by_number n (bit words)) }));
      total = λ shares. by_both (λ c n. answer (c then proposal_check (member_count n) shares) (difference n shares));
      search = λ shares. by_both (searched shares);
      search_words_same = λ shares. by_both (λ c n. words_beside (searched shares c n) (words_of (is_in (named n shares))));
      level = λ caps floors out. by_both (leveled caps floors out);
      level_list_same = λ caps floors out.
          by_both (λ c n. list_after (leveled caps floors out c n) out (level_shares n caps floors));
      cap_sums = λ caps out. by_both (λ c n. answer (summed caps out c n) (all_caps caps));
      cap_sums_list_same = λ caps out.
          by_both (λ c n. written (summed caps out c n) out (list n.arcs (running_sum n caps)));
      by_arc_same = λ out. by_both (λ c n. answer (c then output_check (member_count n) out) (member_count n));
      by_arc_list_same = λ out. by_both (λ c n. written (c then output_check (member_count n) out) out (by_arc n));
      margin = λ arc out.
          by_all arc
          (λ c n part.
          answer (margined arc out c n) (record { margin = widest part arc; users = user_count n arc }));
      margin_list_same = λ arc out.
          by_all arc (λ c n part. written (margined arc out c n) out (shares_at part (widest part arc)));
      shares = λ k. rw (s_ok, t_ok) (ap (λ (n : Network). padded (by_arc n)) (same_network s t differ));
    }
  where
    check : tree_check s ≡ tree_check t
    check = s_ok ∙ sym t_ok

    -- an answer looks only at the check and the network
    by_both : {A : Type 0} (f : Check → Network → A) → f (tree_check s) (network s) ≡ f (tree_check t) (network t)
    by_both f = ap₂ f check (same_network s t differ)

    -- and that of the widest margin at the branch's network besides
    by_all : {A : Type 0} (arc : ℕ) (f : Check → Network → Network → A)
        → f (tree_check s) (network s) (branch_at s arc) ≡ f (tree_check t) (network t) (branch_at t arc)
    by_all arc f =
        by_both (λ c n. f c n (branch_at s arc))
        ∙ ap (f (tree_check t) (network t))
        (same_network (branch s arc) (branch t arc)
        (branches_differ s t (tree_accepted s s_ok).one_a_vertex differ arc))

    margined : ℕ → List ℕ → Check → Network → Check
    margined arc out c n =
        c
        then fault (not (leb 1 arc && (leb arc n.arcs && eqb (n.parent arc) 0))) 25 arc
        then fault (ltb (user_count n arc) 2) 26 arc
        then output_check (user_count n arc) out

    searched : List ℤ → Check → Network → Answer Verdict
    searched shares c n = answer (c then proposal_check (member_count n) shares) (search_verdict n shares)

    leveled : List ℕ → List ℕ → List ℕ → Check → Network → LevelAnswer
    leveled caps floors out c n =
        level_or (c then limits_check (member_count n) caps floors then output_check (member_count n) out)
        (split_from n caps floors n.arcs)

    summed : List ℕ → List ℕ → Check → Network → Check
    summed caps out c n = c then caps_check (member_count n) caps then output_check n.arcs out
