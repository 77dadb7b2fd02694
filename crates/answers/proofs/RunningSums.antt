-- The running sums of caps are the sums over the users.
--
--   cap_sum_at_member, cap_sum_elsewhere          the caps of an arc's users, from child to parent
--   cap_sum_unused                                an arc that nobody uses
--   all_caps_by_vertex, cap_sum_all               all caps, by the members' vertices and by the arcs from the source
--   running_is, running_list                      the running sums are these, one by one and as a list
use Prim.Native.Nat.{ℕ}
use mathlib.Core.Path.{◌≡◌, refl, sym, ap, ◌∙◌}
use mathlib.Core.Bool.{true, false, cond}
use mathlib.Core.Logic.{⊎_elim}
use mathlib.Core.List.{List}
use native.Mathlib.Omega.{arith}
use borrow.Author.Tests.{eqb-true}
use lib.ListN.{length, get_or}
use lib.Dec.{eqb}
use Rattle.basics.specs.Sum.{sum, sum₀, list}
use Rattle.basics.proofs.Bools.{both, clash, not_so, pick_swap, pick_and, pick_yes, pick_no, pick_same}
use Rattle.basics.proofs.Sums.{In, sum_cong, sum_zero}
use Rattle.basics.proofs.Lists.{list_cong}
use Rattle.game.specs.Network.{Network, at_or_below, user, used, everyone, sum_below, number, member_count}
use Rattle.game.proofs.Below.{Rooted, sum_below_children, sum_from_source}
use Rattle.game.proofs.Inward.{from_leaves, inward_is}
use Rattle.game.proofs.Groups.{used_of}
use Rattle.game.proofs.Overpayment.{members_sum}
use Rattle.game.proofs.Certificate.{children}
use Rattle.game.proofs.Excess.{MembersEnd}
use Rattle.game.proofs.Core.{own_sum}
use Rattle.game.proofs.LevelList.{view, view_off}
use Rattle.answers.specs.Level.{cap_sum}
use Rattle.answers.specs.CapSums.{running_sum, all_caps}

pub cap_sum_unused : (n : Network) (caps : List ℕ) (k : ℕ) → used n everyone k ≡ false → cap_sum n caps k ≡ 0
unfolding sum_below
cap_sum_unused n caps k unused =
    sum_zero n.arcs
    (λ v i.
    let cap = get_or caps (number n v) 0 in
    pick_swap (at_or_below n k v) (n.member v) cap
    ∙ sym (pick_and (n.member v) (at_or_below n k v) cap)
    ∙ pick_no cap
    (not_so (user n k v)
    (λ u.
    clash (used_of n {g = everyone} {k = k} (record { by = v; within = i; chosen = refl; uses = u })) unused)))

pub all_caps_by_vertex : (n : Network) (caps : List ℕ) → length caps ≡ member_count n
    → all_caps caps ≡ sum n.arcs (view n caps)
all_caps_by_vertex n caps e =
    ap (λ (k : ℕ). sum₀ k (λ j. get_or caps j 0)) e ∙ members_sum n.arcs n.member (λ j. get_or caps j 0)

module _ (n : Network) (rooted : Rooted n) (caps : List ℕ) where
  pub cap_sum_elsewhere : (k : ℕ) → In n.arcs k → n.member k ≡ false
      → cap_sum n caps k ≡ children n (cap_sum n caps) k
  cap_sum_elsewhere k i m = omega (arith, sum_below_children n rooted (view n caps) k i, view_off n caps k i m)

  pub cap_sum_all : length caps ≡ member_count n → all_caps caps ≡ children n (cap_sum n caps) 0
  cap_sum_all e = all_caps_by_vertex n caps e ∙ sum_from_source n rooted (view n caps)

  module _ (end : MembersEnd n) where
    pub cap_sum_at_member : (k : ℕ) → In n.arcs k → n.member k ≡ true → cap_sum n caps k ≡ get_or caps (number n k) 0
    cap_sum_at_member k i m = own_sum n rooted end (view n caps) k i m ∙ pick_yes (get_or caps (number n k) 0) m

    pub running_is : (k : ℕ) → In n.arcs k → running_sum n caps k ≡ cap_sum n caps k
    running_is =
        from_leaves n rooted (λ k. running_sum n caps k ≡ cap_sum n caps k)
        (λ k i ih.
        inward_is n rooted (λ e below. cond (n.member e) (get_or caps (number n e) 0) below) k i
        ∙ ⊎_elim
        (λ (m : n.member k ≡ true). rw m (sym (cap_sum_at_member k i m)))
        (λ (m : n.member k ≡ false).
        rw m
        (sum_cong n.arcs
        (λ u j. pick_same (eqb (n.parent u) k) (λ e. ih u j (eqb-true (n.parent u) k e)))
        ∙ sym (cap_sum_elsewhere k i m)))
        (both (n.member k)))

    pub running_list : list n.arcs (running_sum n caps) ≡ list n.arcs (cap_sum n caps)
    running_list = list_cong n.arcs running_is
