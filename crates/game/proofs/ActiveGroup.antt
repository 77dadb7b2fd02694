-- The active members of a proposal are the group that the search names, and the excess at the source is what it
-- overpays.
use Prim.Native.Nat.{ℕ, ◌+◌, ◌≤◌, ◌<◌}
use mathlib.Core.Path.{◌≡◌, sym, ap, ◌∙◌, subst}
use mathlib.Core.Bool.{Bool, true, false}
use mathlib.Core.Logic.{⊎_elim}
use mathlib.Core.List.{List}
use native.Mathlib.Omega.{arith}
use lib.IntN.{ℤ, pos}
use lib.Signed.{◌≤ℤ◌}
use Rattle.basics.specs.Sum.{pick, sum}
use Rattle.game.specs.Network.{Network, group_cost, number, member_count}
use Rattle.game.specs.Group.{group_by_number}
use Rattle.basics.specs.Integer.{plus, minus}
use Rattle.game.specs.Proposal.{share, overpayment}
use Rattle.game.specs.Search.{is_in, named}
use Rattle.basics.proofs.Bools.{both, same_test, pick_yes, pick_no, pick_zero, pick_pos}
use Rattle.basics.proofs.Sums.{In, sum_cong, sum_zero}
use Rattle.game.proofs.Below.{Rooted}
use Rattle.game.proofs.Certificate.{children, OfMembers}
use Rattle.game.proofs.Excess.{Excess, Active, MembersEnd, no_children, excess_bound, active_exact}
use Rattle.game.proofs.Excess.{active_part, some_excess}
use Rattle.basics.proofs.Integers.{less_parts, less_same, less_is, less_le, le_less, one_part}
use Rattle.game.proofs.Overpayment.{over_at, under_at, less_over, cost_same}
use Rattle.game.proofs.Numbering.{vertex_of}
use Rattle.game.proofs.Search.{named_good, named_part}

module _ (n : Network) (rooted : Rooted n) (end : MembersEnd n) (shares : List ℤ) (f : ℕ → ℕ) (act : ℕ → Bool)
    (excess : Excess n (over_at n shares) f) (active : Active n f act) where
  of_members : OfMembers n (over_at n shares)
  of_members v i e = pick_no (plus (share shares (number n v))) e

  -- no group overpays more than the excess at the source
  over_bound : (g : ℕ → Bool) → overpayment n shares g ≤ℤ pos (children n f 0)
  over_bound g =
      less_le (overpayment n shares g) (pos (children n f 0)) (less_over n shares g) (less_parts (pos (children n f 0)))
      (omega (arith, excess_bound n rooted (over_at n shares) f act of_members excess active (group_by_number n g)))

  -- an active member's excess is its own, so its share is positive
  active_positive : (v : ℕ) → In n.arcs v → n.member v ≡ true → act v ≡ true → under_at n shares v ≡ 0
  active_positive v i m a =
      let own = pick_pos (n.member v) (plus (share shares (number n v)))
      (omega (
        arith,
        some_excess n rooted (over_at n shares) f act of_members excess active v i a,
        excess v i,
        no_children n end f v m,
      )) in
      ap (pick (n.member v)) (one_part (share shares (number n v)) own.1) ∙ pick_zero (n.member v)

  module _ (g : ℕ → Bool) (agrees : (v : ℕ) → In n.arcs v → n.member v ≡ true → g (number n v) ≡ act v) where
    -- the active members overpay exactly that
    pub active_overpays : overpayment n shares g ≡ pos (children n f 0)
    active_overpays =
        less_same (overpayment n shares g) (pos (children n f 0)) (less_over n shares g)
        (less_parts (pos (children n f 0)))
        (omega (
          arith,
          sum_cong
              n.arcs {f = λ v. pick (g (number n v)) (over_at n shares v)}
              {g = λ v. pick (act v) (over_at n shares v)}
              (λ v i. over_same v i),
          sum_zero n.arcs {f = λ v. pick (g (number n v)) (under_at n shares v)} (λ v i. none_under v i),
          cost_same n (group_by_number n g) act agrees,
          active_exact n rooted (over_at n shares) f act of_members excess active,
        ))
      where
        over_same : (v : ℕ) → In n.arcs v
            → pick (g (number n v)) (over_at n shares v) ≡ pick (act v) (over_at n shares v)
        over_same v i =
            ⊎_elim
            (λ (m : n.member v ≡ true). ap (λ (b : Bool). pick b (over_at n shares v)) (agrees v i m))
            (λ (m : n.member v ≡ false).
            ap (pick (g (number n v))) (of_members v i m) ∙ pick_zero (g (number n v))
            ∙ sym (ap (pick (act v)) (of_members v i m) ∙ pick_zero (act v)))
            (both (n.member v))

        none_under : (v : ℕ) → In n.arcs v → pick (g (number n v)) (under_at n shares v) ≡ 0
        none_under v i =
            ⊎_elim
            (λ (m : n.member v ≡ true).
            ⊎_elim
            (λ (c : g (number n v) ≡ true). pick_yes (under_at n shares v) c
            ∙ active_positive v i m (sym (agrees v i m) ∙ c))
            (λ (c : g (number n v) ≡ false). pick_no (under_at n shares v) c)
            (both (g (number n v))))
            (λ (m : n.member v ≡ false). ap (pick (g (number n v))) (pick_no (minus (share shares (number n v))) m)
            ∙ pick_zero (g (number n v)))
            (both (n.member v))

    -- so they are the named group
    pub active_named : (j : ℕ) → j < member_count n → g j ≡ is_in (named n shares) j
    active_named j h =
        let v = vertex_of n.member n.arcs j h in
        same_test (g j) (is_in (named n shares) j)
        (λ c.
        subst (λ (u : ℕ). is_in (named n shares) u ≡ true) v.numbered
        (active_part n rooted (over_at n shares) f act of_members excess active end
        (group_by_number n (is_in (named n shares))) as_much v.vertex v.within v.is_member
        (sym (agrees v.vertex v.within v.is_member) ∙ ap g v.numbered ∙ c)))
        (λ c. named_part n shares g (rw active_overpays (over_bound (is_in (named n shares)))) j h c)
      where
        as_much : group_cost n (group_by_number n (is_in (named n shares))) + children n f 0
            ≤ sum n.arcs (λ v. pick (is_in (named n shares) (number n v)) (over_at n shares v))
        as_much =
            omega (
              arith,
              le_less (overpayment n shares g) (overpayment n shares (is_in (named n shares))) (less_over n shares g)
                  (less_over n shares (is_in (named n shares)))
                  (named_good n shares g).most,
              less_is (less_over n shares g) (less_parts (pos (children n f 0))) active_overpays,
            )
