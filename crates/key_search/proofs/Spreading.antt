-- The pass that writes the pivots of a round, from the first vertex to the last: where it stands before the i-th place,
-- and one turn.
use Rattle.std.proofs.Common.{◌≡◌, ℕ, ◌+◌, ◌-◌, ◌<◌, ◌≤◌, max, min, List, length, set, ap, sym, ◌∙◌, arith, length-set, below_none, below_more}
use Rattle.limits.specs.Limits.{most_arcs}
use Rattle.key_passes.specs.Passes.{at, Rising, Chosen}
use Rattle.key_passes.proofs.Places.{written, lower_kept}

module _ (order links lows highs : List ℕ) where
  -- the vertices at the places below i have their pivots
  pub record Spreading (pivots : List ℕ) (i : ℕ) : Type 0 where
    pub sized : length pivots ≡ 1024
    pub above : (p : ℕ) → p < i → at links (at order p) ≡ 0 → at lows (at order p) < at pivots (at order p)
    pub below : (p : ℕ) → p < i → at links (at order p) ≡ 0 → at pivots (at order p) < at highs (at order p)
    pub same : (p : ℕ) → p < i → (at links (at order p) ≡ 0 → ⊥)
        → at pivots (at order p) ≡ at pivots (at links (at order p))

  pub spreading_start : {pivots : List ℕ} → length pivots ≡ 1024 → Spreading pivots 0
  spreading_start e =
      record {
        sized = e;
        above = below_none _;
        below = below_none _;
        same = below_none _;
      }

  pub spreading_end : {pivots : List ℕ} {i : ℕ} → length order ≤ i → Spreading pivots i
      → Chosen order links lows highs pivots
  spreading_end h s =
      record {
        above = λ p l. s.above p (omega arith);
        below = λ p l. s.below p (omega arith);
        same = λ p l. s.same p (omega arith);
      }

  module _ {m : ℕ} (few : m ≤ most_arcs) (rises : Rising m order links) (pivots : List ℕ) (i w : ℕ)
      (h : i < length order) (s : Spreading pivots i) where
    pub spreading_on : (at links (at order i) ≡ 0 → at lows (at order i) < w)
        → (at links (at order i) ≡ 0 → w < at highs (at order i))
        → ((at links (at order i) ≡ 0 → ⊥) → w ≡ at pivots (at links (at order i)))
        → Spreading (set pivots (at order i) w) (i + 1)
    spreading_on above below same =
        record {
          sized = length-set pivots (at order i) w ∙ s.sized;
          above =
              below_more _ i (λ p l e. omega (arith, s.above p l e, kept p l)) (λ e. omega (arith, above e, here));
          below =
              below_more _ i (λ p l e. omega (arith, s.below p l e, kept p l)) (λ e. omega (arith, below e, here));
          same =
              below_more _ i (λ p l e. kept p l ∙ s.same p l e ∙ sym (kept_link p l))
              (λ e. here ∙ same e ∙ sym (lower (at links (at order i)) (rises.lower i h)));
        }
      where
        here : at (set pivots (at order i) w) (at order i) ≡ w
        here = written rises i h few pivots w 0 s.sized

        lower : (u : ℕ) → u < at order i → at (set pivots (at order i) w) u ≡ at pivots u
        lower = lower_kept order i pivots w 0

        kept : (p : ℕ) → p < i → at (set pivots (at order i) w) (at order p) ≡ at pivots (at order p)
        kept p l = lower (at order p) (rises.rising p i l h)

        kept_link : (p : ℕ) → p < i
            → at (set pivots (at order i) w) (at links (at order p)) ≡ at pivots (at links (at order p))
        kept_link p l =
            lower (at links (at order p)) (omega (arith, rises.lower p (omega arith), rises.rising p i l h))

  -- one turn as the loop makes it: v is the vertex at place i, and p its link
  module _ {m : ℕ} (few : m ≤ most_arcs) (rises : Rising m order links) {pivots : List ℕ} {i v p : ℕ}
      (h : i < length order) (s : Spreading pivots i) (v_is : v ≡ at order i) (p_is : p ≡ at links v) where
    p_here : p ≡ at links (at order i)
    p_here = rw v_is at p_is

    -- a root's pivot is put between its low and its high key
    pub spreading_root : {w : ℕ} → p ≡ 0 → (guess : ℕ) → at lows (at order i) + 1 < at highs (at order i)
        → w ≡ max (at lows v + 1) (min guess (at highs v - 1))
        → Spreading (set pivots v w) (i + 1)
    spreading_root {w} e guess wide is =
        let between = rw v_is at is in
        rw v_is
        (spreading_on few rises pivots i w h s (λ z. omega arith) (λ z. omega arith)
        (λ z. absurd (z (omega (arith, p_here)))))

    -- any other has its link's
    pub spreading_link : {w : ℕ} → (p ≡ 0 → ⊥) → w ≡ at pivots p → Spreading (set pivots v w) (i + 1)
    spreading_link {w} d is =
        rw v_is
        (spreading_on few rises pivots i w h s (λ z. absurd (d (omega (arith, p_here))))
        (λ z. absurd (d (omega (arith, p_here)))) (λ z. is ∙ ap (at pivots) p_here))
