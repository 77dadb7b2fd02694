-- The costs of the arcs that only a group uses: what the others leave of the whole cost.
use Prim.Native.Nat.{ℕ, ◌+◌, ◌≤◌}
use mathlib.Core.Path.{◌≡◌, refl, sym, ap, ◌∙◌}
use mathlib.Core.Bool.{Bool, true, false, not, ◌&&◌}
use native.Mathlib.Omega.{arith}
use Rattle.basics.specs.Sum.{pick}
use Rattle.game.specs.Network.{Network, used, everyone, group_cost, need, whole_cost, number}
use Rattle.game.specs.Group.{group_by_number}
use Rattle.game.specs.Core.{users, others, only_theirs}
use Rattle.game.specs.Margin.{own_cost}
use Rattle.basics.proofs.Bools.{clash, not_so}
use Rattle.basics.proofs.Sums.{sum_cong, sum_add, sum_parts}
use Rattle.game.proofs.Below.{Rooted}
use Rattle.game.proofs.Counted.{UnusedFree}
use Rattle.game.proofs.Groups.{used_of, used_by}
use Rattle.game.proofs.Bounds.{need_le_only}

-- the members that are not in a group
abbrev pub rest : (ℕ → Bool) → ℕ → Bool
rest g j = not (g j)

module _ (n : Network) (free : UnusedFree n) where
  -- an arc with users that the group does not use is used by one of the others
  used_by_rest : (g : ℕ → Bool) (e : ℕ) → used n (group_by_number n g) e ≡ false → used n everyone e ≡ true
      → used n (group_by_number n (rest g)) e ≡ true
  used_by_rest g e not_g all =
      let u = used_by n everyone e all in
      used_of n
      (record {
        by = u.by;
        within = u.within;
        chosen =
            ap not
            (not_so (g (number n u.by))
            (λ c.
            clash (used_of n {g = group_by_number n g} (record { by = u.by; within = u.within; chosen = c; uses = u.uses }))
            not_g));
        uses = u.uses;
      })

  one_or_rest : (a b : Bool) (c : ℕ) → (a ≡ false → b ≡ false → c ≡ 0) → pick (a && not b) c + pick b c ≡ c
  one_or_rest true true c none = omega arith
  one_or_rest true false c none = omega arith
  one_or_rest false true c none = omega arith
  one_or_rest false false c none = sym (none refl refl)

  pub own_and_rest : (g : ℕ → Bool) → own_cost n g + group_cost n (group_by_number n (rest g)) ≡ whole_cost n
  unfolding own_cost group_cost whole_cost
  own_and_rest g =
      sym
      (sum_add n.arcs
      (λ e. pick (used n (group_by_number n g) e && not (used n (group_by_number n (rest g)) e)) (n.cost e))
      (λ e. pick (used n (group_by_number n (rest g)) e) (n.cost e)))
      ∙ sum_cong n.arcs
      (λ e i.
      one_or_rest (used n (group_by_number n g) e) (used n (group_by_number n (rest g)) e) (n.cost e)
      (λ not_g not_rest.
      free e i (not_so (used n everyone e) (λ all. clash (used_by_rest g e not_g all) not_rest))))

  -- what only an arc's users use is no less than its need
  pub need_le_own : Rooted n → (k : ℕ) → need n k ≤ own_cost n (users n k)
  unfolding only_theirs group_cost whole_cost
  need_le_own rooted k =
      omega (
        arith,
        own_and_rest (users n k),
        need_le_only n rooted k,
        sum_parts n.arcs (used n (group_by_number n (others n k))) n.cost,
      )
