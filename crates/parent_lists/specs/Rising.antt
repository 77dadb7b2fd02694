-- Which arc's entry of a parent list rises.
use Rattle.std.specs.Prelude.{ℕ, suc, ◌≡◌, ◌≤◌, ◌<◌, List, length}
use Rattle.game.specs.Tree.{of_arc}

-- behind the arc each entry is as high as it can be: the vertex before its arc
abbrev pub FullBehind : List ℕ → ℕ → Type 0
FullBehind parents arc = (k : ℕ) → arc < k → k ≤ length parents → suc (of_arc parents k) ≡ k

-- the arc is the highest whose entry can rise
pub record Rises (parents : List ℕ) (arc : ℕ) : Type 0 where
  pub low : 0 < arc
  pub within : arc ≤ length parents
  pub room : suc (of_arc parents arc) < arc
  pub full : FullBehind parents arc
