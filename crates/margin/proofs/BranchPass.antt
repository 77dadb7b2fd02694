-- The marks of a branch in a pass from the source outward that hands on to each vertex whether its parent is inside.
use Prim.Native.Nat.{ℕ, suc, ◌+◌, ◌≤◌, ◌<◌}
use mathlib.Core.Path.{◌≡◌, refl, sym, ap, ◌∙◌}
use mathlib.Core.Bool.{Bool, false, ◌||◌}
use mathlib.Core.List.{List, []}
use native.Mathlib.Numerals.{add-one}
use native.Mathlib.Decide.{ℕ_discrete}
use native.Mathlib.Omega.{arith}
use borrow.Author.Tests.{ne_eqb}
use lib.ListN.{length, get_or, set, replicate, length-set, length-replicate, get_or-replicate}
use lib.Seq.{get_or-set_same, get_or-set_other}
use lib.Dec.{eqb}
use Rattle.basics.specs.Sum.{pick}
use Rattle.basics.proofs.Filling.{Filling, filling_start, filling_on, filling_list}
use Rattle.game.specs.Network.{Network, at_or_below}
use Rattle.game.specs.Tree.{tree_of, network}
use Rattle.game.specs.Branch.{branch_marks}
use Rattle.game.proofs.Below.{below_source, below_step}
use Rattle.tree.specs.Passes.{Sound}

module _ (ps ms : List ℕ) (arc : ℕ) where
  abbrev n : Network
  n = network (tree_of ps [] ms)

  abbrev within : ℕ → Bool
  within = at_or_below n arc

  -- of the vertices 0 to i it is known which are at or below the arc, and the marks of 1 to i are written
  pub record Marking (inside : List Bool) (out : List ℕ) (i : ℕ) : Type 0 where
    pub places : length inside ≡ 1024
    pub known : (v : ℕ) → v ≤ i → get_or inside v false ≡ within v
    pub marks : Filling (length ps) (λ u. pick (within (suc u)) (get_or ms u 0)) out i

  pub marking_end : {inside : List Bool} {out : List ℕ} {i : ℕ} → length ps ≤ i → Marking inside out i
      → out ≡ branch_marks (tree_of ps [] ms) arc
  unfolding branch_marks
  marking_end h s = filling_list _ _ s.marks h _ (λ u. refl)

  module _ (sound : Sound ps) where
    -- the source is below no arc
    pub marking_start : 0 < arc → {out : List ℕ} → length out ≡ length ps → Marking (replicate 1024 false) out 0
    marking_start low l =
        record {
          places = length-replicate 1024 false;
          known =
              λ v h. let e : v ≡ 0 = omega arith in
              get_or-replicate 1024 v false false (omega arith)
              ∙ sym (ap within e ∙ below_source n sound.rising arc ∙ ne_eqb arc 0 (λ z. omega arith));
          marks = filling_start _ _ l;
        }

    pub marking_on : {inside : List Bool} {out : List ℕ} {i : ℕ} → i < length ps → Marking inside out i
        → {here : Bool} {mark : ℕ} → here ≡ (eqb arc (i + 1) || get_or inside (get_or ps i 0) false)
        → mark ≡ pick here (get_or ms i 0)
        → Marking (set inside (i + 1) here) (set out i mark) (i + 1)
    marking_on {inside} {out} {i} h s {here} {mark} eh em =
        record {
          places = length-set inside (i + 1) here ∙ s.places;
          known = λ v l.
              elim (ℕ_discrete v (i + 1)) [
                | yes e ↦
                    ap (λ (u : ℕ). get_or (set inside (i + 1) here) u false) e
                    ∙ get_or-set_same inside (i + 1) here false (omega (arith, s.places, sound.few))
                    ∙ here_is
                    ∙ ap within (sym (e ∙ add-one i))
                | no e ↦ get_or-set_other inside (i + 1) v here false e ∙ s.known v (omega arith)
              ];
          marks = filling_on _ _ s.marks h mark (em ∙ ap (λ (b : Bool). pick b (get_or ms i 0)) here_is);
        }
      where
        here_is : here ≡ within (suc i)
        here_is =
            eh
            ∙ ap (λ (u : ℕ). eqb arc u || get_or inside (get_or ps i 0) false) (add-one i)
            ∙ ap (λ (b : Bool). eqb arc (suc i) || b) (s.known (get_or ps i 0) (sound.rising i))
            ∙ sym (below_step n sound.rising arc i)
