-- Whether an arc leaves the source, by its number and the parent that stands at its place.
use Prim.Native.Nat.{ℕ, ◌-◌, ◌≤◌, ◌<◌}
use mathlib.Core.Path.{◌≡◌, sym, ap, ◌∙◌}
use mathlib.Core.Bool.{true, false}
use mathlib.Core.List.{List}
use native.Mathlib.Omega.{arith}
use borrow.Author.Tests.{le-leb, lt-leb, eq-eqb, ne_eqb}
use lib.ListN.{length, get_or}
use lib.Dec.{eqb}
use Rattle.game.proofs.ArcEntries.{arc_entry}
use Rattle.answers.specs.Margin.{leaves_source}

module _ (ps : List ℕ) (arc : ℕ) where
  pub no_arc : arc ≡ 0 → leaves_source ps arc ≡ false
  no_arc e = rw e

  pub beyond_arcs : (arc ≡ 0 → ⊥) → length ps < arc → leaves_source ps arc ≡ false
  beyond_arcs some h = rw (le-leb 1 arc (omega arith), lt-leb arc (length ps) h)

  module _ (some : arc ≡ 0 → ⊥) (within : arc ≤ length ps) where
    by_parent : leaves_source ps arc ≡ eqb (get_or ps (arc - 1) 0) 0
    by_parent =
        rw (le-leb 1 arc (omega arith), le-leb arc (length ps) within)
        (ap (λ (p : ℕ). eqb p 0) (sym (arc_entry ps arc (omega arith))))

    pub from_source : get_or ps (arc - 1) 0 ≡ 0 → leaves_source ps arc ≡ true
    from_source e = by_parent ∙ eq-eqb (get_or ps (arc - 1) 0) 0 e

    pub from_elsewhere : (get_or ps (arc - 1) 0 ≡ 0 → ⊥) → leaves_source ps arc ≡ false
    from_elsewhere e = by_parent ∙ ne_eqb (get_or ps (arc - 1) 0) 0 e
