-- What the flags of a round mean.
--
--   Decided, Cut, Told       what a vertex's flag tells, and what follows where its link has another
--   Round                    a round up to its flags and keys
--   flag_source, flag_tells  the source's flag stays 0; a round's flags tell that
use Rattle.std.proofs.Common.{◌≡◌, ℕ, ◌<◌, ◌≤◌, max, true, false, ltb, List, length, sym, refl, ap, ◌∙◌, ⊎_elim, arith, le-ltb, lt-ltb, eq-eqb, ne_eqb}
use native.Mathlib.Decide.{dec_lt, ℕ_discrete}
use Rattle.game.specs.Network.{Network}
use Rattle.game.specs.Inward.{of_children}
use Rattle.game.specs.LevelKeys.{held, arc_key, path_key}
use Rattle.game.specs.Tree.{of_arc}
use Rattle.basics.proofs.Bools.{both}
use Rattle.basics.proofs.Sums.{In}
use Rattle.game.proofs.Below.{Rooted}
use Rattle.game.proofs.LevelKeys.{held_mono, held_same_child}
use Rattle.game.proofs.PathKeys.{arc_key_held, arc_key_most, arc_key_within, path_key_le, path_key_source}
use Rattle.key_passes.specs.declared.flags.Flag.{Flag}
use Rattle.key_passes.specs.declared.flags.Flag.TheVariants.{Below, Reached, Exact}
use Rattle.key_passes.specs.Passes.{at, flag_at, is_reached, flag_of, Settled, Chosen}
use Rattle.key_passes.proofs.Places.{Placed}
use Rattle.key_search.proofs.State.{State}
use Rattle.key_search.proofs.Opened.{open_at, placed_in, along_links, link_step, pivot_between, pivot_same}

-- The flag of vertex v by the greatest key on its path. Below: it is below key. Reached: key or above. Exact: besides,
-- what the arc's users have at it they have at key.
pub data Decided (n : Network) (caps : List ℕ) (bound : ℕ → ℕ) (last : ℕ) (flags : List Flag) (key v : ℕ) : Type 0 where
  under : flag_at flags v ≡ Below → path_key n caps bound last v < key → Decided n caps bound last flags key v
  over : flag_at flags v ≡ Reached → key ≤ path_key n caps bound last v → Decided n caps bound last flags key v
  hit : flag_at flags v ≡ Exact → key ≤ path_key n caps bound last v
      → held n caps bound key v ≡ held n caps bound (path_key n caps bound last v) v
      → Decided n caps bound last flags key v

-- where its link's flag is another, the greatest key on the path is the arc's own
pub record Cut (n : Network) (caps : List ℕ) (bound : ℕ → ℕ) (last : ℕ) (links : List ℕ) (flags : List Flag)
    (key v : ℕ) : Type 0 where
  pub reached : key ≤ arc_key n caps bound last v
  pub own : path_key n caps bound last v ≡ arc_key n caps bound last v
  pub link_flag : is_reached (flag_at flags (at links v)) ≡ false

-- what the flag of vertex v tells, and what it tells with its link's
pub record Told (n : Network) (caps : List ℕ) (bound : ℕ → ℕ) (last : ℕ) (links : List ℕ) (flags : List Flag)
    (key v : ℕ) : Type 0 where
  pub decided : Decided n caps bound last flags key v
  pub cut : (flag_at flags v ≡ flag_at flags (at links v) → ⊥) → Cut n caps bound last links flags key v

flag_over : (t b : ℕ) (f : Flag) → b < t → flag_of t b f ≡ f
flag_over t b f h = rw (lt-ltb b t h)

flag_reached : (t b : ℕ) (f : Flag) → f ≡ Reached → flag_of t b f ≡ Reached
flag_reached t b f e =
    rw e (⊎_elim (λ (d : ltb b t ≡ true). rw d refl) (λ (d : ltb b t ≡ false). rw d refl) (both (ltb b t)))

flag_exact : (t b : ℕ) (f : Flag) → t ≡ b → is_reached f ≡ false → flag_of t b f ≡ Exact
flag_exact t b f e d = rw (le-ltb b t (omega arith), d, eq-eqb t b e)

flag_under : (t b : ℕ) (f : Flag) → t < b → is_reached f ≡ false → flag_of t b f ≡ Reached
flag_under t b f h d = rw (le-ltb b t (omega arith), d, ne_eqb t b (λ (e : t ≡ b). omega arith))

-- a round: pivots are chosen, `holds` has what the arcs' users have at them, and flags and keys are settled by that
pub record Round (n : Network) (caps bounds : List ℕ) (last : ℕ) (order links lows highs rests pivots holds : List ℕ)
    (flags flags' : List Flag) (lows' highs' : List ℕ) : Type 0 where
  pub rooted : Rooted n
  pub grows : (k : ℕ) → In n.arcs k → of_children n (of_arc bounds) k ≤ of_arc bounds k
  pub before : State n caps (of_arc bounds) last order links lows highs rests
  pub chosen : Chosen order links lows highs pivots
  pub held_at : (i : ℕ) → i < length order
      → at holds (at order i) ≡ held n caps (of_arc bounds) (at pivots (at order i)) (at order i)
  pub source : flag_at flags 0 ≡ Below
  pub settled : Settled order links bounds pivots holds flags lows highs flags' lows' highs'

module _ {n : Network} {caps bounds : List ℕ} {last : ℕ} {order links lows highs rests pivots holds : List ℕ}
    {flags flags' : List Flag} {lows' highs' : List ℕ}
    (r : Round n caps bounds last order links lows highs rests pivots holds flags flags' lows' highs') where
  pub flag_source : flag_at flags' 0 ≡ Below
  flag_source = r.settled.flags_kept 0 (λ i h e. omega (arith, r.before.order_rises.first i h)) ∙ r.source

  flag_is : (v : ℕ) → Placed order v
      → flag_at flags' v
      ≡ flag_of (held n caps (of_arc bounds) (at pivots v) v) (of_arc bounds v) (flag_at flags' (at links v))
  flag_is v p =
      rw p.is at
      (r.settled.flag p.place p.within
      ∙ ap (λ (t : ℕ). flag_of t (of_arc bounds (at order p.place)) (flag_at flags' (at links (at order p.place))))
      (r.held_at p.place p.within))

  module _ (v : ℕ) (p : Placed order v) where
    abbrev bound : ℕ → ℕ
    bound = of_arc bounds

    abbrev key : ℕ
    key = at pivots v

    abbrev has : ℕ → ℕ
    has k = held n caps bound k v

    abbrev own : ℕ
    own = arc_key n caps bound last v

    abbrev path : ℕ → ℕ
    path = path_key n caps bound last

    abbrev link_flag : Flag
    link_flag = flag_at flags' (at links v)

    inside : In n.arcs v
    inside = placed_in r.before v p

    step : path v ≡ max own (path (at links v))
    step = link_step r.before r.rooted v p

    key_reached : has key ≤ bound v → key ≤ own
    key_reached =
        arc_key_most n caps bound last key v
        (omega (arith, pivot_between r.before r.chosen v p, (open_at r.before v p).within_last))

    -- within the bound, where the arc's own key is the greatest on the path and the link's flag is not `Reached`
    told_own : has key ≤ bound v → is_reached link_flag ≡ false → path v ≡ own
        → Told n caps bound last links flags' key v
    told_own h d e =
        record {
          decided = elim (dec_lt (has key) (bound v)) [
            | yes l ↦ over (flag_is v p ∙ flag_under (has key) (bound v) link_flag l d) (omega (arith, key_reached h))
            | no l ↦
                hit (flag_is v p ∙ flag_exact (has key) (bound v) link_flag (omega arith) d)
                (omega (arith, key_reached h))
                (omega (
                  arith,
                  ap has e,
                  arc_key_held n caps bound last r.grows v inside,
                  held_mono n caps bound key own v (key_reached h),
                ))
          ];
          cut = λ c. record { reached = key_reached h; own = e; link_flag = d };
        }

    -- where the link's users have at its path's key what they have at the pivot, so do v's, but for the bound
    child_same : link_flag ≡ Exact → key ≤ path (at links v)
        → held n caps bound key (at links v) ≡ held n caps bound (path (at links v)) (at links v)
        → max (bound v) (has key) ≡ max (bound v) (has (path (at links v)))
    child_same e l same =
        let up = (open_at r.before v p).linked (λ z. cc (ap (flag_at flags') z ∙ flag_source, e)) in
        held_same_child n caps bound r.rooted key (path (at links v)) (at links v)
        (placed_in r.before (at links v) up.to_open) l same v inside (sym up.to_parent)

    -- above the bound: as the link
    told_above : bound v < has key → Decided n caps bound last flags' key (at links v)
        → Told n caps bound last links flags' key v
    told_above h up = record { decided = as_it up; cut = λ c. absurd (c same_flag) }
      where
        same_flag : flag_at flags' v ≡ link_flag
        same_flag = flag_is v p ∙ flag_over (has key) (bound v) link_flag h

        beyond : own < key
        beyond =
            elim (dec_lt own key) [
              | yes l ↦ l
              | no l ↦ absurd (omega (arith, arc_key_within n caps bound last r.grows v inside key (omega arith)))
            ]

        as_it : Decided n caps bound last flags' key (at links v) → Decided n caps bound last flags' key v
        as_it (under e l) = under (same_flag ∙ e) (omega (arith, beyond, step))
        as_it (over e l) = over (same_flag ∙ e) (omega (arith, step))
        as_it (hit e l same) =
            let d : path v ≡ path (at links v) = omega (arith, beyond, step) in
            hit (same_flag ∙ e) (omega arith) (omega (arith, ap has d, child_same e l same))

    -- within the bound
    told_within : has key ≤ bound v → Decided n caps bound last flags' key (at links v)
        → Told n caps bound last links flags' key v
    told_within h (under e l) =
        told_own h (ap is_reached e) (omega (arith, key_reached h, step))
    told_within h (over e l) =
        let one = flag_is v p ∙ flag_reached (has key) (bound v) link_flag e in
        record { decided = over one (omega (arith, step)); cut = λ c. absurd (c (one ∙ sym e)) }
    told_within h (hit e l same) =
        told_own h (ap is_reached e)
        (omega (
          arith,
          step,
          arc_key_most n caps bound last (path (at links v)) v (path_key_le n caps bound last (at links v))
              (omega (arith, child_same e l same)),
        ))

  pub flag_tells : (v : ℕ) → Placed order v → Told n caps (of_arc bounds) last links flags' (at pivots v) v
  flag_tells =
      along_links r.before (λ v. Told n caps (of_arc bounds) last links flags' (at pivots v) v)
      (λ v p ih. elim (dec_lt (of_arc bounds v) (held n caps (of_arc bounds) (at pivots v) v)) [
        | yes h ↦ told_above v p h (link_decided v p ih)
        | no h ↦ told_within v p (omega arith) (link_decided v p ih)
      ])
    where
      link_decided : (v : ℕ) → Placed order v
          → ((at links v ≡ 0 → ⊥)
          → Told n caps (of_arc bounds) last links flags' (at pivots (at links v)) (at links v))
          → Decided n caps (of_arc bounds) last flags' (at pivots v) (at links v)
      link_decided v p ih =
          elim (ℕ_discrete (at links v) 0) [
            | yes e ↦
                under (ap (flag_at flags') e ∙ flag_source)
                (omega (
                  arith,
                  ap (path_key n caps (of_arc bounds) last) e,
                  path_key_source n caps (of_arc bounds) last r.rooted,
                  pivot_between r.before r.chosen v p,
                ))
            | no l ↦ rw (pivot_same r.before r.chosen v p l) (ih l).decided
          ]
