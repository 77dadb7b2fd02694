-- A network whose members all use one arc from the source.
--
--   all_below           what the arc's users have, all members have
--   all_users           the arc's users are all members
--   used_below          an arc with users is at or below it
--   from_source_alone   of the arcs that leave the source it is the only one with users
--   whole_is_need       its need is the whole cost
use Prim.Native.Nat.{ℕ, zero, suc, ◌<◌}
use mathlib.Core.Path.{◌≡◌, sym, ap, ◌∙◌, subst}
use mathlib.Core.Bool.{true, false}
use mathlib.Core.Logic.{⊎_elim}
use native.Mathlib.Decide.{dec_lt, ℕ_discrete}
use native.Mathlib.Omega.{arith}
use borrow.Author.Tests.{eqb-true, eq-eqb, ne_eqb}
use lib.Dec.{eqb}
use Rattle.basics.specs.Sum.{pick, sum}
use Rattle.game.specs.Network.{Network, at_or_below, used, everyone, sum_below, need, whole_cost, member_count}
use Rattle.game.specs.ByArc.{user_count}
use Rattle.game.specs.Inward.{of_children}
use Rattle.basics.proofs.Bools.{both, clash, not_so, and_first, and_second, pick_yes, pick_no, pick_zero, pick_same}
use Rattle.basics.proofs.Sums.{In, sum_cong, sum_at}
use Rattle.game.proofs.Below.{Rooted, below_self, below_source, below_cases, below_comparable}
use Rattle.game.proofs.Certificate.{OfMembers}
use Rattle.game.proofs.Counted.{UnusedFree}
use Rattle.game.proofs.UserSums.{ones, users_count, someone_uses}
use Rattle.game.proofs.ByArc.{used_count}

-- arc b leaves the source, and every member uses it
pub record Branched (n : Network) (b : ℕ) : Type 0 where
  pub arc : In n.arcs b
  pub leaves : n.parent b ≡ 0
  pub all_use : (v : ℕ) → In n.arcs v → n.member v ≡ true → at_or_below n b v ≡ true

module _ (n : Network) (rooted : Rooted n) where
  -- an arc above one that leaves the source is that one
  pub above_leaving : (k b : ℕ) → In n.arcs k → In n.arcs b → n.parent b ≡ 0 → at_or_below n k b ≡ true → k ≡ b
  above_leaving k zero i j e h = absurd (omega arith)
  above_leaving k (suc b) i j e h =
      ⊎_elim
      (λ (d : k ≡ suc b). d)
      (λ (d : at_or_below n k (n.parent (suc b)) ≡ true).
      absurd (omega (arith, eqb-true k 0 (sym (below_source n rooted k) ∙ sym (ap (at_or_below n k) e) ∙ d))))
      (below_cases n rooted k b h)

  module _ (b : ℕ) (br : Branched n b) where
    -- what the arc's users have, all members have
    pub all_below : (y : ℕ → ℕ) → OfMembers n y → sum_below n y b ≡ sum n.arcs y
    unfolding sum_below
    all_below y of_members =
        sum_cong n.arcs
        (λ v i.
        ⊎_elim
        (λ (m : n.member v ≡ true). pick_yes (y v) (br.all_use v i m))
        (λ (m : n.member v ≡ false). rw (of_members v i m) (pick_zero (at_or_below n b v)))
        (both (n.member v)))

    pub all_users : user_count n b ≡ member_count n
    all_users = users_count n b ∙ all_below (ones n) (λ v i m. pick_no 1 m)

    pub used_below : (k : ℕ) → In n.arcs k → 0 < user_count n k → at_or_below n b k ≡ true
    used_below k i some =
        let s = someone_uses n k some in
        let v = s.by in
        ⊎_elim
        (λ (h : at_or_below n b k ≡ true). h)
        (λ (h : at_or_below n k b ≡ true).
        subst (λ (u : ℕ). at_or_below n b u ≡ true) (sym (above_leaving k b i br.arc br.leaves h))
        (below_self n rooted b))
        (below_comparable n rooted b k v
        (br.all_use v s.within (and_first (n.member v) (at_or_below n k v) s.uses))
        (and_second (n.member v) (at_or_below n k v) s.uses))

    -- amounts that are 0 where an arc has no users
    pub from_source_alone : (f : ℕ → ℕ) → ((k : ℕ) → In n.arcs k → user_count n k ≡ 0 → f k ≡ 0)
        → of_children n f 0 ≡ f b
    from_source_alone f none = sum_cong n.arcs only ∙ sum_at n.arcs b f br.arc
      where
        other : (u : ℕ) → In n.arcs u → (b ≡ u → ⊥) → n.parent u ≡ 0 → f u ≡ 0
        other u i d e =
            elim (dec_lt 0 (user_count n u)) [
              | yes h ↦ absurd (d (above_leaving b u br.arc i e (used_below u i h)))
              | no h ↦ none u i (omega arith)
            ]

        only : (u : ℕ) → In n.arcs u → pick (eqb (n.parent u) 0) (f u) ≡ pick (eqb b u) (f u)
        only u i =
            elim (ℕ_discrete b u) [
              | yes d ↦
                  pick_yes (f u) (eq-eqb (n.parent u) 0 (sym (ap n.parent d) ∙ br.leaves))
                  ∙ sym (pick_yes (f u) (eq-eqb b u d))
              | no d ↦
                  pick_same (eqb (n.parent u) 0) (λ e. other u i d (eqb-true (n.parent u) 0 e))
                  ∙ pick_zero (eqb (n.parent u) 0)
                  ∙ sym (pick_no (f u) (ne_eqb b u d))
            ]

    pub whole_is_need : UnusedFree n → whole_cost n ≡ need n b
    unfolding whole_cost sum_below
    whole_is_need free = sum_cong n.arcs (λ v i. here v i)
      where
        here : (v : ℕ) → In n.arcs v → n.cost v ≡ pick (at_or_below n b v) (n.cost v)
        here v i =
            ⊎_elim
            (λ (h : at_or_below n b v ≡ true). sym (pick_yes (n.cost v) h))
            (λ (h : at_or_below n b v ≡ false).
            free v i (not_so (used n everyone v) (λ u. clash (used_below v i (used_count n v u)) h))
            ∙ sym (pick_no (n.cost v) h))
            (both (at_or_below n b v))
