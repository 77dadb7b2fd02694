-- The core theorem: the lists of the core are those that add up and give every arc's users the paper's bound, or the
-- need.
use Prim.Native.Nat.{ℕ, ◌+◌, ◌≤◌, ◌<◌}
use mathlib.Core.Path.{◌≡◌, sym, ap, ◌∙◌}
use mathlib.Core.Bool.{Bool, true, false}
use mathlib.Core.Logic.{⊎_elim}
use mathlib.Core.List.{List}
use native.Mathlib.Omega.{arith}
use lib.IntN.{ℤ, pos}
use lib.Signed.{◌≤ℤ◌}
use Rattle.basics.specs.Sum.{pick, sum, sum₀}
use Rattle.game.specs.Network.{Network, at_or_below, group_cost, sum_below, need, whole_cost, number, member_count}
use Rattle.game.specs.Group.{group_by_number}
use Rattle.basics.specs.Integer.{plus, minus}
use Rattle.game.specs.Proposal.{share, pays}
use Rattle.game.specs.Core.{users, others, bound, AddsUp, Core, CoreByBound, CoreByNeed}
use Rattle.basics.proofs.Bools.{both, pick_yes, pick_no, pick_zero}
use Rattle.basics.proofs.Sums.{In, sum_cong, sum_zero, sum_parts}
use Rattle.game.proofs.Below.{Rooted, sum_below_children}
use Rattle.game.proofs.Certificate.{OfMembers}
use Rattle.game.proofs.Excess.{MembersEnd, no_children}
use Rattle.game.proofs.Spare.{spare_bound}
use Rattle.game.proofs.Numbering.{vertex_of}
use Rattle.basics.proofs.Integers.{less_parts, less_le, le_less, less_is, le_trans_ℤ, no_minus}
use Rattle.game.proofs.Overpayment.{over_at, under_at, group_sum, by_vertex, less_pays}
use Rattle.game.proofs.Bounds.{users_at, less_bound, need_le_bound}

module _ (n : Network) where
  -- what an arc's users have of a weight of the members: its sum at or below the arc
  pub users_sum : (x : ℕ → ℕ) → OfMembers n x → (k : ℕ) → group_sum n x (users n k) ≡ sum_below n x k
  unfolding sum_below
  users_sum x of_members k =
      sum_cong n.arcs
      (λ v i.
      ⊎_elim
      (λ (m : n.member v ≡ true). ap (λ (b : Bool). pick b (x v)) (users_at n k v i m))
      (λ (m : n.member v ≡ false).
      let e = of_members v i m in
      ap (pick (users n k (number n v))) e ∙ pick_zero (users n k (number n v))
      ∙ sym (ap (pick (at_or_below n k v)) e ∙ pick_zero (at_or_below n k v)))
      (both (n.member v)))

  -- a sum over an arc's users, by member number and by vertex
  pub users_by_vertex : (x : ℕ → ℕ) (k : ℕ)
      → sum₀ (member_count n) (λ j. pick (users n k j) (x j)) ≡ sum_below n (λ v. pick (n.member v) (x (number n v))) k
  users_by_vertex x k =
      by_vertex n (users n k) x
      ∙ users_sum (λ v. pick (n.member v) (x (number n v))) (λ v i m. pick_no (x (number n v)) m) k

module _ (n : Network) (shares : List ℤ) where
  pays_whole : AddsUp n shares
      → group_sum n (over_at n shares) (λ j. true) ≡ whole_cost n + group_sum n (under_at n shares) (λ j. true)
  pays_whole adds = omega (arith, less_is (less_pays n shares (λ j. true)) (less_parts (pos (whole_cost n))) adds)

  -- an arc's users pay what the others leave of the whole cost
  pub core_to_bound : Core n shares → CoreByBound n shares
  core_to_bound core = record { adds_up = core.adds_up; users_enough = λ k i. enough k }
    where
      enough : (k : ℕ) → bound n k ≤ℤ pays n shares (users n k)
      enough k =
          let c = pos (group_cost n (group_by_number n (others n k))) in
          less_le (bound n k) (pays n shares (users n k)) (less_bound n k) (less_pays n shares (users n k))
          (omega (
            arith,
            pays_whole core.adds_up,
            le_less (pays n shares (others n k)) c (less_pays n shares (others n k)) (less_parts c)
                (core.no_group_more (others n k)),
            sum_parts n.arcs (group_by_number n (users n k)) (over_at n shares),
            sum_parts n.arcs (group_by_number n (users n k)) (under_at n shares),
          ))

  -- the sums at or below an arc are the need and more, by the parts of the shares
  need_parts : CoreByNeed n shares → (k : ℕ) → In n.arcs k
      → need n k + sum_below n (under_at n shares) k ≤ sum_below n (over_at n shares) k
  need_parts core k i =
      omega (
        arith,
        le_less (pos (need n k)) (pays n shares (users n k)) (less_parts (pos (need n k)))
            (less_pays n shares (users n k)) (core.users_enough k (omega arith)),
        users_sum n (over_at n shares) (λ v j m. pick_no (plus (share shares (number n v))) m) k,
        users_sum n (under_at n shares) (λ v j m. pick_no (minus (share shares (number n v))) m) k,
      )

module _ (n : Network) (rooted : Rooted n) (shares : List ℤ) where
  pub bound_to_need : CoreByBound n shares → CoreByNeed n shares
  bound_to_need core =
      record {
        adds_up = core.adds_up;
        users_enough = λ k i. le_trans_ℤ (need_le_bound n rooted k) (core.users_enough k i);
      }

-- at a member's own arc the sum is the member's alone
pub own_sum : (n : Network) → Rooted n → MembersEnd n → (x : ℕ → ℕ) (v : ℕ) → In n.arcs v → n.member v ≡ true
    → sum_below n x v ≡ x v
own_sum n rooted end x v i m = omega (arith, sum_below_children n rooted x v i, no_children n end (sum_below n x) v m)

module _ (n : Network) (rooted : Rooted n) (end : MembersEnd n) (shares : List ℤ) where
  -- so no member's share is negative
  no_under : CoreByNeed n shares → (v : ℕ) → In n.arcs v → n.member v ≡ true → minus (share shares (number n v)) ≡ 0
  no_under core v i m =
      no_minus (share shares (number n v))
      (omega (
        arith,
        need_parts n shares core v i,
        own_sum n rooted end (over_at n shares) v i m,
        own_sum n rooted end (under_at n shares) v i m,
        pick_yes (plus (share shares (number n v))) m,
        pick_yes (minus (share shares (number n v))) m,
      ))

  pub core_nonneg : Core n shares → (j : ℕ) → j < member_count n → minus (share shares j) ≡ 0
  core_nonneg core j h =
      let v = vertex_of n.member n.arcs j h in
      ap (λ (i : ℕ). minus (share shares i)) (sym v.numbered)
      ∙ no_under (bound_to_need n rooted shares (core_to_bound n shares core)) v.vertex v.within v.is_member

  module _ (core : CoreByNeed n shares) where
    pub enough : (k : ℕ) → In n.arcs k → need n k ≤ sum_below n (over_at n shares) k
    enough k i = omega (arith, need_parts n shares core k i)

    none_under : (g : ℕ → Bool) → group_sum n (under_at n shares) g ≡ 0
    none_under g = sum_zero n.arcs (λ v i. ap (pick (g (number n v))) (none v i) ∙ pick_zero (g (number n v)))
      where
        none : (v : ℕ) → In n.arcs v → under_at n shares v ≡ 0
        none v i =
            ⊎_elim
            (λ (m : n.member v ≡ true). pick_yes (minus (share shares (number n v))) m ∙ no_under core v i m)
            (λ (m : n.member v ≡ false). pick_no (minus (share shares (number n v))) m)
            (both (n.member v))

    pub pays_all : sum n.arcs (over_at n shares) ≡ whole_cost n
    pays_all = omega (arith, pays_whole n shares core.adds_up, none_under (λ j. true))

    pub need_to_core : Core n shares
    need_to_core = record { adds_up = core.adds_up; no_group_more = no_more }
      where
        no_more : (g : ℕ → Bool) → pays n shares g ≤ℤ pos (group_cost n (group_by_number n g))
        no_more g =
            let c = pos (group_cost n (group_by_number n g)) in
            less_le (pays n shares g) c (less_pays n shares g) (less_parts c)
            (omega (
              arith,
              spare_bound n rooted (over_at n shares) (λ v i m. pick_no (plus (share shares (number n v))) m)
                  pays_all enough (group_by_number n g),
            ))
