-- Where the arcs' users begin, in a pass from the first arc on that keeps for each vertex where the next child arc's
-- do.
use Prim.Native.Nat.{ℕ, zero, suc, ◌+◌, ◌*◌, ◌≤◌, ◌<◌}
use mathlib.Core.Path.{◌≡◌, refl, sym, ◌∙◌}
use mathlib.Core.List.{List}
use native.Mathlib.Decide.{ℕ_discrete}
use native.Mathlib.Omega.{arith}
use borrow.Author.Tests.{eq-eqb, ne_eqb}
use lib.ListN.{length, get_or, set, length-set}
use lib.Seq.{get_or-set_same, get_or-set_other}
use Rattle.limits.specs.Limits.{most_arcs}
use Rattle.game.specs.Tree.{of_arc}
use Rattle.basics.proofs.Bools.{pick_yes, pick_no}
use Rattle.basics.proofs.Sums.{In, sum_zero}
use Rattle.tree.specs.Passes.{Sound}
use Rattle.users.specs.Layout.{Counts, leaving, Begins}

module _ (ps counts : List ℕ) where
  -- after the arcs 1 to i the next child arc of v begins at `place`
  pub record Next (starts : List ℕ) (i v place : ℕ) : Type 0 where
    pub is : place ≡ of_arc starts v + leaving (of_arc ps) (of_arc counts) v i
    pub small : place ≤ i * most_arcs

  -- the arcs 1 to i begin where they are to
  pub record Beginning (starts next : List ℕ) (i : ℕ) : Type 0 where
    pub kept : length starts ≡ length ps
    pub places : length next ≡ 1024
    pub begins : Begins i (of_arc ps) (of_arc counts) (of_arc starts)
    pub nexts : (v : ℕ) → v ≤ i → Next starts i v (get_or next v 0)

  module _ (sound : Sound ps) (counted : Counts (length ps) counts) {starts next : List ℕ} {i : ℕ}
      (within : i < length ps) (s : Beginning starts next i) where
    -- the next arc's parent, and where the arc begins
    abbrev p : ℕ
    p = get_or ps i 0

    abbrev w : ℕ
    w = get_or next p 0

    -- the lists as the turn writes them
    abbrev starts' : List ℕ
    starts' = set starts i w

    abbrev moved : List ℕ
    moved = set next p (w + get_or counts i 0)

    abbrev next' : List ℕ
    next' = set moved (suc i) w

    at_parent : Next starts i p w
    at_parent = s.nexts p (sound.rising i)

    -- where the parent's next child arc begins
    pub start_fits : w + get_or counts i 0 ≤ 1046529
    start_fits = omega (arith, at_parent.small, counted.limited i within, sound.few)

    -- what stands for the vertices up to i stays
    kept_before : (v : ℕ) → v ≤ i → of_arc starts' v ≡ of_arc starts v
    kept_before zero h = refl
    kept_before (suc u) h = get_or-set_other starts i u w 0 (λ e. omega arith)

    own : get_or starts' i 0 ≡ w
    own = get_or-set_same starts i w 0 (omega (arith, s.kept))

    after_on : (u : ℕ) → u < suc i
        → get_or starts' u 0 ≡ of_arc starts' (get_or ps u 0) + leaving (of_arc ps) (of_arc counts) (get_or ps u 0) u
    after_on u h =
        elim (ℕ_discrete u i) [
          | yes e ↦ rw e (omega (arith, own, at_parent.is, kept_before p (sound.rising i)))
          | no e ↦
              omega (
                arith,
                get_or-set_other starts i u w 0 e,
                s.begins.after u (omega arith),
                kept_before (get_or ps u 0) (omega (arith, sound.rising u)),
              )
        ]

    -- no arc up to i + 1 leaves vertex i + 1
    none_leave : leaving (of_arc ps) (of_arc counts) (suc i) (suc i) ≡ 0
    none_leave = sum_zero (suc i) (λ u j. pick_no (of_arc counts u) (ne_eqb (of_arc ps u) (suc i) (λ e. later u j e)))
      where
        later : (u : ℕ) → In (suc i) u → of_arc ps u ≡ suc i → ⊥
        later zero j e = omega arith
        later (suc u) j e = omega (arith, sound.rising u)

    next_here : Next starts' (suc i) (suc i) (get_or next' (suc i) 0)
    next_here =
        rw (get_or-set_same moved (suc i) w 0
        (omega (arith, length-set next p (w + get_or counts i 0), s.places, sound.few)))
        (record { is = omega (arith, own, none_leave); small = omega (arith, at_parent.small) })

    next_of_parent : Next starts' (suc i) p (get_or moved p 0)
    next_of_parent =
        rw (get_or-set_same next p (w + get_or counts i 0) 0 (omega (arith, s.places, sound.few, sound.rising i)))
        (record {
          is =
              omega
              (arith, at_parent.is, kept_before p (sound.rising i), pick_yes (get_or counts i 0) (eq-eqb p p refl));
          small = omega (arith, at_parent.small, counted.limited i within);
        })

    nexts_on : (v : ℕ) → v ≤ suc i → Next starts' (suc i) v (get_or next' v 0)
    nexts_on v h =
        elim (ℕ_discrete v (suc i)) [
          | yes e ↦ rw e next_here
          | no e ↦
              rw (get_or-set_other moved (suc i) v w 0 e)
              (elim (ℕ_discrete v p) [
                | yes d ↦ rw d next_of_parent
                | no d ↦
                    let at = s.nexts v (omega arith) in
                    rw (get_or-set_other next p v (w + get_or counts i 0) 0 d)
                    (record {
                      is =
                          omega (
                            arith,
                            at.is,
                            kept_before v (omega arith),
                            pick_no (get_or counts i 0) (ne_eqb p v (λ q. d (sym q))),
                          );
                      small = omega (arith, at.small);
                    })
              ])
        ]

    pub beginning_on : Beginning starts' next' (suc i)
    beginning_on =
        record {
          kept = length-set starts i w ∙ s.kept;
          places = length-set moved (suc i) w ∙ length-set next p (w + get_or counts i 0) ∙ s.places;
          begins = record { source = refl; after = after_on };
          nexts = nexts_on;
        }
