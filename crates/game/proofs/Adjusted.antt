-- Laws of the adjusted needs.
--
--   adjusted_member, adjusted_elsewhere   by the member's floor; by those of the child arcs
--   adjusted_need, adjusted_floor         at least the need; at a member's arc at least its floor
--   adjusted_grows                        at least those of the child arcs together
--   adjusted_least                        the least numbers with these laws, below any arc
--   adjusted_limit                        at most the need and the users' floors
--   adjusted_without                      the needs where every floor is 0
--   adjusted_covered                      where the child arcs' caps are enough
use Prim.Native.Nat.{ℕ, zero, suc, ◌+◌, ◌≤◌, ◌<◌, max}
use mathlib.Core.Path.{◌≡◌, sym, ap, ◌∙◌, subst}
use mathlib.Core.Bool.{Bool, true, false, cond}
use mathlib.Core.Logic.{⊎_elim}
use mathlib.Core.List.{List}
use native.Mathlib.Omega.{arith}
use lib.ListN.{get_or}
use Rattle.game.specs.Network.{Network, at_or_below, sum_below, need, number, member_count}
use Rattle.game.specs.Inward.{of_children}
use Rattle.game.specs.Floors.{adjusted_by, adjusted}
use Rattle.basics.proofs.Bools.{both, pick_yes}
use Rattle.basics.proofs.Sums.{In}
use Rattle.game.proofs.Below.{Rooted, below_parent, all_below_source, sum_below_children}
use Rattle.game.proofs.Inward.{from_leaves, children_add, children_mono, inward_is}
use Rattle.game.proofs.Excess.{MembersEnd, no_children}
use Rattle.game.proofs.Overpayment.{number_lt}
use Rattle.game.proofs.Core.{own_sum}
use Rattle.game.proofs.LevelList.{view}

-- an arc at or below arc a has its child arcs there too
below_child : (n : Network) → Rooted n → (a k u : ℕ) → In n.arcs u → n.parent u ≡ k → at_or_below n a k ≡ true
    → at_or_below n a u ≡ true
below_child n rooted a k zero j e b = absurd (omega (arith, j.low))
below_child n rooted a k (suc u) j e b =
    below_parent n rooted a u (subst (λ (v : ℕ). at_or_below n a v ≡ true) (sym e) b)

module _ (n : Network) (rooted : Rooted n) (ends : MembersEnd n) (floors : List ℕ) where
  abbrev floor : ℕ → ℕ
  floor k = get_or floors (number n k) 0

  pub adjusted_member : (k : ℕ) → In n.arcs k → n.member k ≡ true
      → adjusted n floors k ≡ max (need n k) (get_or floors (number n k) 0)
  adjusted_member k i m =
      inward_is n rooted (adjusted_by n floors) k i
      ∙ ap (λ (b : Bool). cond b (max (n.cost k) (floor k)) (max (need n k) (of_children n (adjusted n floors) k))) m
      ∙ ap (λ (x : ℕ). max x (floor k)) (sym (own_sum n rooted ends n.cost k i m))

  pub adjusted_elsewhere : (k : ℕ) → In n.arcs k → n.member k ≡ false
      → adjusted n floors k ≡ max (need n k) (of_children n (adjusted n floors) k)
  adjusted_elsewhere k i m =
      inward_is n rooted (adjusted_by n floors) k i
      ∙ ap (λ (b : Bool). cond b (max (n.cost k) (floor k)) (max (need n k) (of_children n (adjusted n floors) k))) m

  pub adjusted_floor : (k : ℕ) → In n.arcs k → n.member k ≡ true → get_or floors (number n k) 0 ≤ adjusted n floors k
  adjusted_floor k i m = omega (arith, adjusted_member k i m)

  pub adjusted_need : (k : ℕ) → In n.arcs k → need n k ≤ adjusted n floors k
  adjusted_need k i =
      ⊎_elim (λ (m : n.member k ≡ true). omega (arith, adjusted_member k i m))
      (λ (m : n.member k ≡ false). omega (arith, adjusted_elsewhere k i m)) (both (n.member k))

  pub adjusted_grows : (k : ℕ) → In n.arcs k → of_children n (adjusted n floors) k ≤ adjusted n floors k
  adjusted_grows k i =
      ⊎_elim (λ (m : n.member k ≡ true). omega (arith, no_children n ends (adjusted n floors) k m))
      (λ (m : n.member k ≡ false). omega (arith, adjusted_elsewhere k i m)) (both (n.member k))

  pub adjusted_least : (a : ℕ) (f : ℕ → ℕ) → ((k : ℕ) → In n.arcs k → need n k ≤ f k)
      → ((k : ℕ) → In n.arcs k → n.member k ≡ true → at_or_below n a k ≡ true → get_or floors (number n k) 0 ≤ f k)
      → ((k : ℕ) → In n.arcs k → of_children n f k ≤ f k)
      → (k : ℕ) → In n.arcs k → at_or_below n a k ≡ true → adjusted n floors k ≤ f k
  adjusted_least a f needs kept grows =
      from_leaves n rooted (λ k. at_or_below n a k ≡ true → adjusted n floors k ≤ f k)
      (λ k i ih b.
      ⊎_elim (λ (m : n.member k ≡ true). omega (arith, adjusted_member k i m, needs k i, kept k i m b))
      (λ (m : n.member k ≡ false).
      omega (
        arith,
        adjusted_elsewhere k i m,
        needs k i,
        grows k i,
        children_mono n (adjusted n floors) f k (λ u j e. ih u j e (below_child n rooted a k u j e b)),
      ))
      (both (n.member k)))

  pub adjusted_limit : (k : ℕ) → In n.arcs k → adjusted n floors k ≤ need n k + sum_below n (view n floors) k
  adjusted_limit k i =
      adjusted_least 0 (λ e. need n e + sum_below n (view n floors) e) (λ e j. omega arith)
      (λ e j m b. omega (arith, own_sum n rooted ends (view n floors) e j m, pick_yes (floor e) m))
      (λ e j.
      omega (
        arith,
        children_add n (need n) (sum_below n (view n floors)) e,
        sum_below_children n rooted n.cost e j,
        sum_below_children n rooted (view n floors) e j,
      ))
      k i (all_below_source n rooted k)

  pub adjusted_without : ((j : ℕ) → get_or floors j 0 ≡ 0) → (k : ℕ) → In n.arcs k → adjusted n floors k ≡ need n k
  adjusted_without none k i =
      omega (
        arith,
        adjusted_need k i,
        adjusted_least 0 (need n) (λ e j. omega arith) (λ e j m b. omega (arith, none (number n e)))
            (λ e j. omega (arith, sum_below_children n rooted n.cost e j)) k i (all_below_source n rooted k),
      )

  -- the floors are at most the caps, and the caps of the child arcs' users are enough: then the arc's own need alone
  -- can be more than its users' caps
  pub adjusted_covered : (caps : List ℕ) → ((j : ℕ) → j < member_count n → get_or floors j 0 ≤ get_or caps j 0)
      → (k : ℕ) → In n.arcs k
      → ((u : ℕ) → In n.arcs u → n.parent u ≡ k → adjusted n floors u ≤ sum_below n (view n caps) u)
      → adjusted n floors k ≤ max (need n k) (sum_below n (view n caps) k)
  adjusted_covered caps most k i enough =
      ⊎_elim
      (λ (m : n.member k ≡ true).
      omega (
        arith,
        adjusted_member k i m,
        own_sum n rooted ends (view n caps) k i m,
        pick_yes (get_or caps (number n k) 0) m,
        most (number n k) (number_lt n k i m),
      ))
      (λ (m : n.member k ≡ false).
      omega (
        arith,
        adjusted_elsewhere k i m,
        children_mono n (adjusted n floors) (sum_below n (view n caps)) k enough,
        sum_below_children n rooted (view n caps) k i,
      ))
      (both (n.member k))
