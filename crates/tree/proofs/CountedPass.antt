-- The counted costs in a pass from the last arc down.
use Prim.Native.Nat.{ℕ, suc, ◌-◌, ◌≤◌, ◌<◌}
use mathlib.Core.Path.{◌≡◌, refl, ap, ◌∙◌}
use mathlib.Core.Bool.{Bool, false, ◌||◌}
use mathlib.Core.List.{List}
use native.Mathlib.Omega.{arith}
use lib.ListN.{length, get_or, set, replicate}
use Rattle.basics.specs.Sum.{pick}
use Rattle.basics.proofs.Filling.{FilledFrom, from_end, from_next, from_start}
use Rattle.game.specs.Network.{everyone}
use Rattle.game.specs.Tree.{tree_of, network_of, counted, counted_costs}
use Rattle.tree.specs.Passes.{Sound, Marked}
use Rattle.tree.proofs.Carry.{flags, carried_start}
use Rattle.tree.proofs.UsePass.{in_use, Using, using_on}

module _ (ps cs ms : List ℕ) where
  -- with the arcs 1 to k still to come: the places from k on hold counted costs
  pub record Counting (out : List ℕ) (users : List Bool) (k : ℕ) : Type 0 where
    pub known : Using ps cs ms everyone k users
    pub written : FilledFrom (length ps) (λ i. counted (network_of ps cs ms) (suc i)) out k

  pub counting_start : {out : List ℕ} {k : ℕ} → k ≡ length ps → length out ≡ length ps
      → Counting out (replicate 1024 false) k
  counting_start e l =
      rw e (record { known = carried_start flags ps (in_use ps cs ms everyone); written = from_end _ _ refl l })

  pub counting_end : {out : List ℕ} {users : List Bool} {k : ℕ} → k ≡ 0 → Counting out users k
      → out ≡ counted_costs (tree_of ps cs ms)
  unfolding counted_costs
  counting_end e s = from_start _ _ e s.written (counted (network_of ps cs ms)) (λ u. refl)

  pub counting_on : Sound ps → Marked ps ms → {k : ℕ} → 0 < k → k ≤ length ps
      → {out : List ℕ} {users : List Bool} → Counting out users k
      → {here : Bool} {paid : ℕ} → here ≡ in_use ps cs ms everyone k → paid ≡ pick here (get_or cs (k - 1) 0)
      → Counting (set out (k - 1) paid)
      (set users (get_or ps (k - 1) 0) (get_or users (get_or ps (k - 1) 0) false || here)) (k - 1)
  counting_on sound marks {k} low within s {paid = paid} used cost =
      let next : k ≡ suc (k - 1) = omega arith in
      record {
        known = using_on ps cs ms everyone sound marks low within s.known used;
        written =
            from_next _ _ s.written within next paid
            (cost ∙ ap (λ (b : Bool). pick b (get_or cs (k - 1) 0)) (used ∙ ap (in_use ps cs ms everyone) next));
      }
