-- What holds of a vertex in the order, and of its pivot.
--
--   open_at, placed_in, link_lower  the state's facts by vertex
--   along_links                     induction from the vertices that are not linked outward
--   link_step                       the greatest key on the path, by the link
--   pivot_between, pivot_same       the pivot lies between the keys, and is the link's
use Rattle.std.proofs.Common.{◌≡◌, ℕ, zero, suc, ◌<◌, max, List, ap, subst, arith}
use native.Mathlib.Decide.{ℕ_discrete}
use Rattle.game.specs.Network.{Network}
use Rattle.game.specs.LevelKeys.{arc_key, path_key}
use Rattle.basics.proofs.Sums.{In}
use Rattle.game.proofs.Below.{Rooted}
use Rattle.game.proofs.PathKeys.{path_key_source, path_key_step}
use Rattle.key_passes.specs.Passes.{at, Chosen}
use Rattle.key_passes.proofs.Places.{Placed}
use Rattle.key_search.proofs.State.{Open, State}

module _ {n : Network} {caps : List ℕ} {bound : ℕ → ℕ} {last : ℕ} {order links lows highs rests : List ℕ}
    (s : State n caps bound last order links lows highs rests) where
  pub open_at : (v : ℕ) → Placed order v → Open n caps bound last order links lows highs rests v
  open_at v p = subst (Open n caps bound last order links lows highs rests) p.is (s.opened p.place p.within)

  pub placed_in : (v : ℕ) → Placed order v → In n.arcs v
  placed_in v p =
      omega (arith, s.order_rises.first p.place p.within, s.order_rises.last p.place p.within)

  pub link_lower : (v : ℕ) → Placed order v → at links v < v
  link_lower v p = rw p.is at (s.order_rises.lower p.place p.within)

  pub along_links : (P : ℕ → Type 0)
      → ((v : ℕ) → Placed order v → ((at links v ≡ 0 → ⊥) → P (at links v)) → P v) → (v : ℕ) → Placed order v → P v
  along_links P step v = up_to (suc v) v (omega arith)
    where
      up_to : (d v : ℕ) → v < d → Placed order v → P v
      up_to zero v h p = absurd (omega arith)
      up_to (suc d) v h p =
          step v p (λ l. up_to d (at links v) (omega (arith, link_lower v p)) ((open_at v p).linked l).to_open)

  module _ (rooted : Rooted n) where
    -- the greatest key on the path, by the link
    pub link_step : (v : ℕ) → Placed order v
        → path_key n caps bound last v ≡ max (arc_key n caps bound last v) (path_key n caps bound last (at links v))
    link_step v p =
        elim (ℕ_discrete (at links v) 0) [
          | yes e ↦
              omega (
                arith,
                (open_at v p).own_key e,
                ap (path_key n caps bound last) e,
                path_key_source n caps bound last rooted,
              )
          | no l ↦
              omega (
                arith,
                ap (path_key n caps bound last) ((open_at v p).linked l).to_parent,
                path_key_step n caps bound last rooted v (placed_in v p),
              )
        ]

  module _ {pivots : List ℕ} (chosen : Chosen order links lows highs pivots) where
    pub pivot_same : (v : ℕ) → Placed order v → (at links v ≡ 0 → ⊥) → at pivots v ≡ at pivots (at links v)
    pivot_same v p = rw p.is at (chosen.same p.place p.within)

    pub pivot_between : (v : ℕ) → Placed order v → (at lows v < at pivots v) × (at pivots v < at highs v)
    pivot_between =
        along_links (λ v. (at lows v < at pivots v) × (at pivots v < at highs v))
        (λ v p ih.
        elim (ℕ_discrete (at links v) 0) [
          | yes e ↦ (first_above v p e, first_below v p e)
          | no l ↦ let up = (open_at v p).linked l in omega (arith, ih l, pivot_same v p l)
        ])
      where
        first_above : (v : ℕ) → Placed order v → at links v ≡ 0 → at lows v < at pivots v
        first_above v p = rw p.is at (chosen.above p.place p.within)

        first_below : (v : ℕ) → Placed order v → at links v ≡ 0 → at pivots v < at highs v
        first_below v p = rw p.is at (chosen.below p.place p.within)
