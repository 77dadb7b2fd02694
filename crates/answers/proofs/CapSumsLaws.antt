-- The laws of the running sums of caps, about the entry's own answer and list.
use Prim.Native.Nat.{ℕ, zero, suc}
use mathlib.Core.Path.{◌≡◌, refl, sym, ap, ◌∙◌}
use mathlib.Core.List.{List}
use native.Mathlib.Omega.{arith}
use lib.ListN.{length, get_or}
use lib.Dec.{eqb}
use Rattle.basics.specs.Sum.{pick, list}
use Rattle.basics.proofs.Sums.{In, sum_cong}
use Rattle.basics.proofs.Lists.{list_at, list_length}
use Rattle.game.specs.Network.{Network, member_count}
use Rattle.game.specs.Tree.{Tree, network, of_arc}
use Rattle.game.proofs.Below.{Rooted}
use Rattle.game.proofs.Certificate.{children}
use Rattle.game.proofs.Excess.{MembersEnd}
use Rattle.answer_forms.specs.Answer.{Check, accepted, value, ◌then◌, answer, written}
use Rattle.answer_forms.proofs.Composed.{first_accepted, second_accepted}
use Rattle.answers.specs.Checks.{tree_check, output_check}
use Rattle.answers.specs.Laws.{ArcOf}
use Rattle.answers.specs.Level.{outside_cap, caps_check, cap_sum}
use Rattle.answers.specs.CapSums.{running_sum, all_caps, cap_sums_check, cap_sums_answer, cap_sums_list}
use Rattle.answers.specs.CapSumsLaws.{sum_at, sum_from, CapSumsLaws, CapSumsStatement}
use Rattle.answers.proofs.Accepted.{tree_accepted}
use Rattle.answers.proofs.InRange.{list_accepted}
use Rattle.answers.proofs.CoreLaws.{members_end}
use Rattle.answers.proofs.RunningSums.{cap_sum_at_member, cap_sum_elsewhere, cap_sum_unused, cap_sum_all}
use Rattle.answers.proofs.RunningSums.{running_list}

module _ (t : Tree) (caps out : List ℕ) (ok : cap_sums_check t caps out ≡ accepted) where
  abbrev n : Network
  n = network t

  abbrev lists : Check
  lists = caps_check (member_count n) caps then output_check n.arcs out

  tree_ok : tree_check t ≡ accepted
  tree_ok = first_accepted (tree_check t) lists ok

  rooted : Rooted n
  rooted = (tree_accepted t tree_ok).rooted

  ends : MembersEnd n
  ends = members_end t (tree_accepted t tree_ok)

  one_a_member : length caps ≡ member_count n
  one_a_member =
      (list_accepted outside_cap 0 (member_count n) caps refl
      (first_accepted (caps_check (member_count n) caps) (output_check n.arcs out)
      (second_accepted (tree_check t) lists ok))
      ).same

  is_list : cap_sums_list t caps out ≡ list n.arcs (cap_sum n caps)
  unfolding cap_sums_list
  is_list =
      ap (λ (c : Check). written c out (list n.arcs (running_sum n caps))) ok
      ∙ running_list n rooted caps ends

  at : (k : ℕ) → In n.arcs k → sum_at t caps out k ≡ cap_sum n caps k
  at zero i = absurd (omega arith)
  at (suc i) h =
      ap (λ (l : List ℕ). get_or l i 0) is_list ∙ list_at (cap_sum n caps) 0 n.arcs i (omega (arith, h.high))

  from : (v : ℕ) → children n (cap_sum n caps) v ≡ sum_from t caps out v
  from v = sum_cong n.arcs (λ u i. ap (pick (eqb (of_arc t.parents u) v)) (sym (at u i)))

  answered : cap_sums_answer t caps out ≡ value (all_caps caps)
  unfolding cap_sums_answer
  answered = ap (λ (c : Check). answer c (all_caps caps)) ok

  within : {k : ℕ} → ArcOf t k → In n.arcs k
  within a = record { low = a.first; high = a.last }

  laws : CapSumsLaws t caps out
  laws =
      record {
        one_an_arc = ap length is_list ∙ list_length (cap_sum n caps) n.arcs;
        of_users = λ k a. at k (within a);
        of_nobody = λ k a unused. at k (within a) ∙ cap_sum_unused n caps k unused;
        at_member = λ k a m. at k (within a) ∙ cap_sum_at_member n rooted caps ends k (within a) m;
        elsewhere = λ k a m. at k (within a) ∙ cap_sum_elsewhere n rooted caps k (within a) m ∙ from k;
        answers_caps = answered;
        answers_from_source = answered ∙ ap value (cap_sum_all n rooted caps one_a_member ∙ from 0);
      }

pub cap_sums_laws : CapSumsStatement
cap_sums_laws t caps out ok = laws t caps out ok
