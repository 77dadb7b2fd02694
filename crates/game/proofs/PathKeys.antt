-- Laws of an arc's key and of the greatest key on a path.
--
--   greatest_le, greatest_passes, greatest_most  the greatest number that passes a test
--   arc_key_le, arc_key_held                     an arc's key, and what its users have at it
--   arc_key_within, arc_key_most                 the keys up to it, and no other, are within the arc's bound
--   le_most, most_le                             the greatest of some numbers
--   path_key_source, path_key_step, path_key_le  the greatest key on a path, from the source outward
use Prim.Native.Nat.{ℕ, zero, suc, ◌≤◌, max}
use mathlib.Core.Path.{◌≡◌, ap, ◌∙◌}
use mathlib.Core.Bool.{Bool, true, false}
use mathlib.Core.Logic.{⊎_elim}
use mathlib.Core.List.{List}
use native.Mathlib.Decide.{dec_le}
use native.Mathlib.Omega.{arith}
use borrow.Author.Tests.{leb-true, le-leb}
use lib.Dec.{leb}
use Rattle.basics.specs.Sum.{pick}
use Rattle.game.specs.Network.{Network, at_or_below}
use Rattle.game.specs.Inward.{of_children}
use Rattle.game.specs.LevelKeys.{held, greatest, arc_key, most, path_key}
use Rattle.basics.proofs.Bools.{both, clash, pick_yes}
use Rattle.basics.proofs.Sums.{In, in_cases, in_last, in_more}
use Rattle.game.proofs.Below.{Rooted, below_self, below_parent, below_cases, below_le}
use Rattle.game.proofs.LevelKeys.{held_mono, held_start_le}

module _ (test : ℕ → Bool) where
  greatest_yes : (last : ℕ) → test (suc last) ≡ true → greatest test (suc last) ≡ suc last
  unfolding greatest
  greatest_yes last e = rw (e, greatest)

  greatest_no : (last : ℕ) → test (suc last) ≡ false → greatest test (suc last) ≡ greatest test last
  unfolding greatest
  greatest_no last e = rw (e, greatest)

  pub greatest_le : (last : ℕ) → greatest test last ≤ last
  unfolding greatest
  greatest_le zero = omega arith
  greatest_le (suc last) =
      ⊎_elim
      (λ (e : test (suc last) ≡ true). omega (arith, greatest_yes last e))
      (λ (e : test (suc last) ≡ false). omega (arith, greatest_no last e, greatest_le last))
      (both (test (suc last)))

  pub greatest_passes : test 0 ≡ true → (last : ℕ) → test (greatest test last) ≡ true
  unfolding greatest
  greatest_passes start zero = start
  greatest_passes start (suc last) =
      ⊎_elim
      (λ (e : test (suc last) ≡ true). ap test (greatest_yes last e) ∙ e)
      (λ (e : test (suc last) ≡ false). ap test (greatest_no last e) ∙ greatest_passes start last)
      (both (test (suc last)))

  pub greatest_most : (last key : ℕ) → key ≤ last → test key ≡ true → key ≤ greatest test last
  greatest_most zero key h t = omega arith
  greatest_most (suc last) key h t =
      ⊎_elim
      (λ (e : test (suc last) ≡ true). omega (arith, greatest_yes last e))
      (λ (e : test (suc last) ≡ false).
      omega (arith, greatest_no last e, greatest_most last key (before e) t))
      (both (test (suc last)))
    where
      -- the last number does not pass, so it is not the key
      before : test (suc last) ≡ false → key ≤ last
      before e =
          elim (dec_le key last) [
            | yes l ↦ l
            | no l ↦ let d : key ≡ suc last = omega arith in absurd (clash t (ap test d ∙ e))
          ]

module _ (n : Network) (caps : List ℕ) (bound : ℕ → ℕ) (last : ℕ) where
  pub arc_key_le : (k : ℕ) → arc_key n caps bound last k ≤ last
  arc_key_le k = greatest_le (λ key. leb (held n caps bound key k) (bound k)) last

  pub arc_key_most : (key k : ℕ) → key ≤ last → held n caps bound key k ≤ bound k → key ≤ arc_key n caps bound last k
  arc_key_most key k l h =
      greatest_most (λ key. leb (held n caps bound key k) (bound k)) last key l
      (le-leb (held n caps bound key k) (bound k) h)

  module _ (grows : (k : ℕ) → In n.arcs k → of_children n bound k ≤ bound k) (k : ℕ) (i : In n.arcs k) where
    pub arc_key_held : held n caps bound (arc_key n caps bound last k) k ≤ bound k
    arc_key_held =
        leb-true (held n caps bound (arc_key n caps bound last k) k) (bound k)
        (greatest_passes (λ key. leb (held n caps bound key k) (bound k))
        (le-leb (held n caps bound 0 k) (bound k) (held_start_le n caps bound grows k i)) last)

    pub arc_key_within : (key : ℕ) → key ≤ arc_key n caps bound last k → held n caps bound key k ≤ bound k
    arc_key_within key h = omega (arith, held_mono n caps bound key (arc_key n caps bound last k) k h, arc_key_held)

-- the greatest of some numbers is at least each, and at most what all are at most
le_most : (m k : ℕ) (f : ℕ → ℕ) → In m k → f k ≤ most m f
le_most zero k f i = absurd (omega arith)
le_most (suc m) k f i = in_cases m k i (λ j. omega (arith, le_most m k f j)) (λ e. omega (arith, ap f e))

most_le : (m b : ℕ) {f : ℕ → ℕ} → ((k : ℕ) → In m k → f k ≤ b) → most m f ≤ b
most_le zero b h = omega arith
most_le (suc m) b {f} h = omega (arith, most_le m b {f = f} (λ k i. h k (in_more i)), h (suc m) (in_last m))

module _ (n : Network) (caps : List ℕ) (bound : ℕ → ℕ) (last : ℕ) where
  -- an arc's key is at most the path key of every vertex at or below it
  path_key_least : (e v : ℕ) → In n.arcs e → at_or_below n e v ≡ true
      → arc_key n caps bound last e ≤ path_key n caps bound last v
  unfolding path_key
  path_key_least e v i b =
      let own = arc_key n caps bound last in
      omega (arith, pick_yes (own e) b, le_most n.arcs e (λ e. pick (at_or_below n e v) (own e)) i)

  -- and a path key is at most what the keys of all arcs on the path are at most
  path_key_greatest : (v b : ℕ)
      → ((e : ℕ) → In n.arcs e → at_or_below n e v ≡ true → arc_key n caps bound last e ≤ b)
      → path_key n caps bound last v ≤ b
  unfolding path_key
  path_key_greatest v b all =
      most_le n.arcs b
      (λ e i.
      ⊎_elim
      (λ (t : at_or_below n e v ≡ true). rw t (all e i t))
      (λ (t : at_or_below n e v ≡ false). rw t (omega arith))
      (both (at_or_below n e v)))

  pub path_key_le : (v : ℕ) → path_key n caps bound last v ≤ last
  path_key_le v = path_key_greatest v last (λ e i t. arc_key_le n caps bound last e)

  module _ (rooted : Rooted n) where
    -- the source is at or below no arc
    pub path_key_source : path_key n caps bound last 0 ≡ 0
    path_key_source =
        omega (arith, path_key_greatest 0 0 (λ e i t. absurd (omega (arith, below_le n rooted e 0 t))))

    pub path_key_step : (v : ℕ) → In n.arcs v
        → path_key n caps bound last v ≡ max (arc_key n caps bound last v) (path_key n caps bound last (n.parent v))
    path_key_step zero i = absurd (omega arith)
    path_key_step (suc v) i =
        let above = path_key n caps bound last (n.parent (suc v)) in
        omega (
          arith,
          path_key_least (suc v) (suc v) i (below_self n rooted (suc v)),
          path_key_greatest (n.parent (suc v)) (path_key n caps bound last (suc v))
              (λ e j t. path_key_least e (suc v) j (below_parent n rooted e v t)),
          path_key_greatest (suc v) (max (arc_key n caps bound last (suc v)) above)
              (λ e j t.
              ⊎_elim
              (λ (d : e ≡ suc v). omega (arith, ap (arc_key n caps bound last) d))
              (λ (t : at_or_below n e (n.parent (suc v)) ≡ true).
              omega (arith, path_key_least e (n.parent (suc v)) j t))
              (below_cases n rooted e v t)),
        )
