-- The low and high keys after a round.
--
--   Moved, keys_moved, keys_under    the greatest key on the path lies between them still, and they are nearer
--   left_settled                     a vertex that does not stay open is settled
--   low_same, high_same, stays_same  linked vertices with the same flag
--   round_nearer                     the keys' distances add up to less
use Rattle.std.proofs.Common.{◌≡◌, ℕ, ◌+◌, ◌-◌, ◌<◌, ◌≤◌, Bool, false, cond, List, length, ap, ◌∙◌, ⊎_elim, arith, ltb-false}
use borrow.Author.Tests.{not-false}
use Rattle.basics.specs.Sum.{sum}
use Rattle.game.specs.Network.{Network}
use Rattle.game.specs.LevelKeys.{path_key}
use Rattle.game.specs.Tree.{of_arc}
use Rattle.basics.proofs.Sums.{In, sum_gap}
use Rattle.game.proofs.LevelKeys.{vertex_at, held_same_vertex}
use Rattle.key_passes.specs.declared.flags.Flag.{Flag}
use Rattle.key_passes.specs.declared.flags.Flag.TheVariants.{Below}
use Rattle.key_passes.specs.Passes.{at, flag_at, is_below, is_exact, same_flag, Outside, stays_open, is_cut}
use Rattle.key_passes.proofs.FlagTests.{same_flags}
use Rattle.key_passes.proofs.Places.{Placed, placed_at, placed_or_outside}
use Rattle.key_search.proofs.Opened.{open_at, placed_in, pivot_between, pivot_same}
use Rattle.key_search.proofs.Decided.{Decided, under, over, hit, Round, flag_tells}

-- the keys of an open vertex before and after a round, and the greatest key on its path
pub record Moved (path low high low' high' : ℕ) : Type 0 where
  pub low_rises : low ≤ low'
  pub low_le : low' ≤ path
  pub high_more : path < high'
  pub high_falls : high' ≤ high
  pub nearer : high' - low' < high - low

module _ {n : Network} {caps bounds : List ℕ} {last : ℕ} {order links lows highs rests pivots holds : List ℕ}
    {flags flags' : List Flag} {lows' highs' : List ℕ}
    (r : Round n caps bounds last order links lows highs rests pivots holds flags flags' lows' highs') where
  abbrev bound : ℕ → ℕ
  bound = of_arc bounds

  abbrev path : ℕ → ℕ
  path = path_key n caps bound last

  abbrev stays : ℕ → Bool
  stays = stays_open flags' lows' highs'

  low_is : (v : ℕ) → Placed order v → at lows' v ≡ cond (is_below (flag_at flags' v)) (at lows v) (at pivots v)
  low_is v p = rw p.is at (r.settled.low p.place p.within)

  high_is : (v : ℕ) → Placed order v → at highs' v ≡ cond (is_below (flag_at flags' v)) (at pivots v) (at highs v)
  high_is v p = rw p.is at (r.settled.high p.place p.within)

  -- the keys by the flag
  pub keys_under : (v : ℕ) → Placed order v → flag_at flags' v ≡ Below
      → (at lows' v ≡ at lows v) × (at highs' v ≡ at pivots v)
  keys_under v p e = (rw e at (low_is v p), rw e at (high_is v p))

  keys_over : (v : ℕ) → Placed order v → is_below (flag_at flags' v) ≡ false
      → (at lows' v ≡ at pivots v) × (at highs' v ≡ at highs v)
  keys_over v p d = (rw d at (low_is v p), rw d at (high_is v p))

  pub keys_moved : (v : ℕ) → Placed order v → Moved (path v) (at lows v) (at highs v) (at lows' v) (at highs' v)
  keys_moved v p = by_flag (flag_tells r v p).decided
    where
      between : (at lows v < at pivots v) × (at pivots v < at highs v)
      between = pivot_between r.before r.chosen v p

      by_flag : Decided n caps bound last flags' (at pivots v) v
          → Moved (path v) (at lows v) (at highs v) (at lows' v) (at highs' v)
      by_flag (under e l) = omega (arith, between, keys_under v p e, open_at r.before v p)
      by_flag (over e l) = omega (arith, between, keys_over v p (ap is_below e), open_at r.before v p)
      by_flag (hit e l same) = omega (arith, between, keys_over v p (ap is_below e), open_at r.before v p)

  -- a vertex that does not stay open is settled
  pub left_settled : (v : ℕ) → Placed order v → stays v ≡ false
      → vertex_at n caps (at lows' v) v ≡ vertex_at n caps (path v) v
  left_settled v p e = by_flag (flag_tells r v p).decided
    where
      narrow : is_exact (flag_at flags' v) ≡ false → vertex_at n caps (at lows' v) v ≡ vertex_at n caps (path v) v
      narrow d =
          let m = keys_moved v p in
          let z = ltb-false (at lows' v + 1) (at highs' v) (rw d at e) in
          ap (λ (key : ℕ). vertex_at n caps key v) (omega arith)

      by_flag : Decided n caps bound last flags' (at pivots v) v
          → vertex_at n caps (at lows' v) v ≡ vertex_at n caps (path v) v
      by_flag (under f l) = narrow (ap is_exact f)
      by_flag (over f l) = narrow (ap is_exact f)
      by_flag (hit f l same) =
          ap (λ (key : ℕ). vertex_at n caps key v) (keys_over v p (ap is_below f)).0
          ∙ held_same_vertex n caps bound r.rooted (at pivots v) (path v) v (placed_in r.before v p) l same

  -- linked vertices with the same flag have the same keys
  module _ (v : ℕ) (p : Placed order v) (l : at links v ≡ 0 → ⊥) (u : is_cut links flags' v ≡ false) where
    flag_same : flag_at flags' v ≡ flag_at flags' (at links v)
    flag_same = same_flags (flag_at flags' v) (flag_at flags' (at links v)) (not-false (same_flag _ _) u)

    pub low_same : at lows' v ≡ at lows' (at links v)
    low_same =
        let up = (open_at r.before v p).linked l in
        cc (low_is v p, low_is (at links v) up.to_open, flag_same, pivot_same r.before r.chosen v p l)

    pub high_same : at highs' v ≡ at highs' (at links v)
    high_same =
        let up = (open_at r.before v p).linked l in
        cc (high_is v p, high_is (at links v) up.to_open, flag_same, pivot_same r.before r.chosen v p l)

    pub stays_same : stays v ≡ stays (at links v)
    stays_same = rw (flag_same, low_same, high_same)

  -- the keys' distances add up to less
  pub round_nearer : 0 < length order
      → sum n.arcs (λ v. at highs' v - at lows' v) < sum n.arcs (λ v. at highs v - at lows v)
  round_nearer h =
      let first = placed_at order 0 h in
      let m = keys_moved (at order 0) first in
      omega (
        arith,
        sum_gap n.arcs (at order 0) (λ v. at highs' v - at lows' v) (λ v. at highs v - at lows v) apart
            (placed_in r.before (at order 0) first),
      )
    where
      apart : (v : ℕ) → In n.arcs v → at highs' v - at lows' v ≤ at highs v - at lows v
      apart v i =
          ⊎_elim
          (λ (p : Placed order v). let m = keys_moved v p in omega arith)
          (λ (o : Outside order v). omega (arith, r.settled.lows_kept v o, r.settled.highs_kept v o))
          (placed_or_outside order v)
