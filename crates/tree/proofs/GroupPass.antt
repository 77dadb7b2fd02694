-- A group's cost in a pass from the last arc down.
use Prim.Native.Nat.{ℕ, suc, ◌+◌, ◌-◌, ◌≤◌, ◌<◌}
use mathlib.Core.Path.{◌≡◌, refl, sym, ap, ◌∙◌}
use mathlib.Core.Bool.{Bool, true, false, ◌||◌}
use mathlib.Core.List.{List}
use native.Mathlib.Nat.{zero-add}
use native.Mathlib.Omega.{arith}
use borrow.Author.Tests.{eq-eqb, ne_eqb}
use lib.ListN.{length, get_or, set, replicate}
use lib.Dec.{eqb}
use Rattle.limits.specs.Inner.{most_whole}
use Rattle.limits.specs.Limits.{most_arcs}
use Rattle.basics.specs.Sum.{pick, sum}
use Rattle.game.specs.Network.{group_cost, number, member_count}
use Rattle.game.specs.Tree.{network_of, of_arc}
use Rattle.basics.specs.Bit.{bit}
use Rattle.game.specs.Group.{group_by_number}
use Rattle.basics.proofs.Bools.{pick_yes, pick_no, pick_le}
use Rattle.basics.proofs.Sums.{sum_mono}
use Rattle.tree.specs.Passes.{Sound, Costed, Marked}
use Rattle.tree.proofs.Carry.{flags, carried_start}
use Rattle.tree.proofs.UsePass as UsePass
use Rattle.tree.proofs.MemberPass.{up_to, up_to_le, up_to_next, up_to_number}
use Rattle.tree.proofs.Bounds.{costs_bound}

module _ (ps cs ms words : List ℕ) where
  -- the group's vertices, and the arcs that it uses
  abbrev pub chosen : ℕ → Bool
  chosen = group_by_number (network_of ps cs ms) (bit words)

  abbrev pub in_use : ℕ → Bool
  in_use = UsePass.in_use ps cs ms chosen

  -- what the arcs 1 to k cost the group
  abbrev cost_to : ℕ → ℕ
  cost_to k = sum k (λ u. pick (in_use u) (of_arc cs u))

  -- with the arcs 1 to k still to come: j members among them, and what they cost the group
  pub record Costing (users : List Bool) (j cost k : ℕ) : Type 0 where
    pub left : j ≡ up_to ms k
    pub known : UsePass.Using ps cs ms chosen k users
    pub costed : cost + cost_to k ≡ group_cost (network_of ps cs ms) chosen

module _ (ps cs ms words : List ℕ) where
  pub costing_start : {j k : ℕ} → k ≡ length ps → j ≡ member_count (network_of ps cs ms)
      → Costing ps cs ms words (replicate 1024 false) j 0 k
  unfolding group_cost
  costing_start e l =
      rw (e, l)
      (record {
        left = refl;
        known = carried_start flags ps (in_use ps cs ms words);
        costed = zero-add (cost_to ps cs ms words (length ps));
      })

  pub costing_few : Sound ps → {users : List Bool} {j cost k : ℕ} → k ≤ length ps
      → Costing ps cs ms words users j cost k → j ≤ most_arcs
  costing_few sound {k} h s = omega (arith, s.left, up_to_le ms k, sound.few)

  -- the turn of arc k, whose entries are those at k - 1
  module _ (sound : Sound ps) (costs : Costed ps cs) (marks : Marked ps ms) {k : ℕ} (low : 0 < k)
      (within : k ≤ length ps) {users : List Bool} {j cost : ℕ} (s : Costing ps cs ms words users j cost k) where
    next : k ≡ suc (k - 1)
    next = omega arith

    -- no group costs more than the whole
    group_bound : group_cost (network_of ps cs ms) (chosen ps cs ms words) ≤ most_whole
    unfolding group_cost
    group_bound =
        omega (
          arith,
          sum_mono (length ps) {f = λ u. pick (in_use ps cs ms words u) (of_arc cs u)} {g = of_arc cs}
              (λ u _. pick_le (in_use ps cs ms words u) (of_arc cs u)),
          costs_bound ps cs sound costs,
        )

    costed_on : (here : Bool) → here ≡ in_use ps cs ms words k
        → cost + pick here (get_or cs (k - 1) 0) + cost_to ps cs ms words (k - 1)
        ≡ group_cost (network_of ps cs ms) (chosen ps cs ms words)
    costed_on here e =
        omega (
          arith,
          s.costed,
          ap (λ (b : Bool). pick b (get_or cs (k - 1) 0)) (e ∙ ap (in_use ps cs ms words) next),
          ap (cost_to ps cs ms words) next,
        )

    one : get_or ms (k - 1) 0 ≡ 1 → 1 ≡ pick (eqb (get_or ms (k - 1) 0) 1) 1
    one e = sym (pick_yes 1 (eq-eqb (get_or ms (k - 1) 0) 1 e))

    none : (get_or ms (k - 1) 0 ≡ 1 → ⊥) → 0 ≡ pick (eqb (get_or ms (k - 1) 0) 1) 1
    none d = sym (pick_no 1 (ne_eqb (get_or ms (k - 1) 0) 1 d))

    -- a member's number is that of the members before it; the bit of that number says whether its arc is used
    pub left_at_member : get_or ms (k - 1) 0 ≡ 1 → j ≡ up_to ms (k - 1) + 1
    left_at_member e = s.left ∙ up_to_next ms next (one e)

    pub used_at_member : get_or ms (k - 1) 0 ≡ 1 → bit words (j - 1) ≡ in_use ps cs ms words k
    used_at_member e =
        let numbered : j - 1 ≡ number (network_of ps cs ms) k =
        ap (λ (x : ℕ). x - 1) s.left ∙ up_to_number ms next (one e) in
        ap (bit words) numbered
        ∙ UsePass.using_member ps cs ms (chosen ps cs ms words) sound marks low within s.known e

    -- at another vertex a child arc does
    pub left_elsewhere : (get_or ms (k - 1) 0 ≡ 1 → ⊥) → j ≡ up_to ms (k - 1)
    left_elsewhere d = omega (arith, s.left, up_to_next ms next (none d))

    pub used_elsewhere : (get_or ms (k - 1) 0 ≡ 1 → ⊥) → get_or users (k - 1 + 1) false ≡ in_use ps cs ms words k
    used_elsewhere d = UsePass.using_other ps cs ms (chosen ps cs ms words) sound marks low within s.known d

    module _ {here : Bool} (used : here ≡ in_use ps cs ms words k) where
      pub costing_fits : here ≡ true → cost + get_or cs (k - 1) 0 ≤ most_whole
      costing_fits e = omega (arith, costed_on here used, pick_yes (get_or cs (k - 1) 0) e, group_bound)

      pub costing_on : {left paid : ℕ} → left ≡ up_to ms (k - 1) → paid ≡ cost + pick here (get_or cs (k - 1) 0)
          → Costing ps cs ms words
          (set users (get_or ps (k - 1) 0) (get_or users (get_or ps (k - 1) 0) false || here)) left paid (k - 1)
      costing_on e p =
          record {
            left = e;
            known = UsePass.using_on ps cs ms (chosen ps cs ms words) sound marks low within s.known used;
            costed = rw p (costed_on here used);
          }
