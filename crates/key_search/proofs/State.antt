-- Where the search stands between two rounds, over a network, caps, a bound for each arc and the last key.
use Rattle.std.proofs.Common.{◌≡◌, ℕ, ◌+◌, ◌<◌, ◌≤◌, max, ◌⊎◌, List, length}
use Rattle.game.specs.Network.{Network}
use Rattle.game.specs.LevelKeys.{held, arc_key, path_key}
use Rattle.game.proofs.LevelKeys.{vertex_at}
use Rattle.basics.proofs.Sums.{In}
use Rattle.key_passes.specs.Passes.{at, Rising, linked_sum}
use Rattle.key_passes.proofs.Places.{Placed}

-- v is linked to its parent, which is open and has the same low and high key
pub record Linked (n : Network) (order links lows highs : List ℕ) (v : ℕ) : Type 0 where
  pub to_parent : at links v ≡ n.parent v
  pub to_open : Placed order (at links v)
  pub same_low : at lows v ≡ at lows (at links v)
  pub same_high : at highs v ≡ at highs (at links v)

module _ (n : Network) (caps : List ℕ) (bound : ℕ → ℕ) (last : ℕ) where
  -- what holds of an open vertex v
  pub record Open (order links lows highs rests : List ℕ) (v : ℕ) : Type 0 where
    pub low : at lows v ≤ path_key n caps bound last v
    pub high : path_key n caps bound last v < at highs v
    pub within_last : at highs v ≤ last + 1
    pub wide : at lows v + 1 < at highs v
    pub linked : (at links v ≡ 0 → ⊥) → Linked n order links lows highs v
    -- where it is not linked, the greatest key on its path is its arc's own
    pub own_key : at links v ≡ 0 → path_key n caps bound last v ≡ arc_key n caps bound last v
    -- what its arc's users have at a key between its low and its high one
    pub balance : (key : ℕ) → at lows v < key → key < at highs v
        → held n caps bound key v
        ≡ at rests v + vertex_at n caps key v
        + linked_sum order links (λ c. max (bound c) (held n caps bound key c)) v
    pub room : at rests v + linked_sum order links bound v ≤ bound v

  pub record State (order links lows highs rests : List ℕ) : Type 0 where
    pub order_rises : Rising n.arcs order links
    pub opened : (i : ℕ) → i < length order → Open order links lows highs rests (at order i)
    -- a vertex is open, or has at its low key what it has at the greatest key on its path
    pub open_or_settled : (v : ℕ) → In n.arcs v
        → Placed order v ⊎ (vertex_at n caps (at lows v) v ≡ vertex_at n caps (path_key n caps bound last v) v)
