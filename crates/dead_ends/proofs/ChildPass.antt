-- The vertices that have a child, in a pass over the parent list.
use Prim.Native.Nat.{ℕ, ◌≤◌}
use mathlib.Core.Path.{◌≡◌, ap, ◌∙◌}
use mathlib.Core.Bool.{Bool, false}
use mathlib.Core.List.{List}
use native.Mathlib.Omega.{arith}
use lib.ListN.{length, get_or, replicate, length-replicate, get_or-replicate}
use lib.Dec.{eqb}
use Rattle.limits.specs.Limits.{most_arcs}
use Rattle.basics.specs.Sum.{some}
use Rattle.game.specs.Tree.{of_arc, has_child}

module _ (ps : List ℕ) where
  -- v is named by one of the entries 1 to i
  abbrev named_by : ℕ → ℕ → Bool
  named_by i v = some i (λ u. eqb (of_arc ps u) v)

  -- after the entries 1 to i
  pub record Naming (has : List Bool) (i : ℕ) : Type 0 where
    pub places : length has ≡ 1024
    pub named : (v : ℕ) → 1 ≤ v → v ≤ most_arcs → get_or has v false ≡ named_by i v

  pub naming_start : Naming (replicate 1024 false) 0
  naming_start =
      record {
        places = length-replicate 1024 false;
        named = λ v lo hi. get_or-replicate 1024 v false false (omega arith);
      }

  pub naming_end : {has : List Bool} {i : ℕ} → i ≡ length ps → Naming has i
      → (v : ℕ) → 1 ≤ v → v ≤ most_arcs → get_or has v false ≡ has_child ps v
  unfolding has_child
  naming_end e s v lo hi = s.named v lo hi ∙ ap (λ (u : ℕ). named_by u v) e
