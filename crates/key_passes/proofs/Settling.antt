-- The pass that settles the open vertices: where it stands before the i-th place of the order, and one turn.
use Prim.Native.Nat.{ℕ, ◌+◌, ◌-◌, ◌≤◌, ◌<◌}
use mathlib.Core.Path.{◌≡◌, refl, sym, ◌∙◌}
use mathlib.Core.Bool.{false, cond}
use mathlib.Core.List.{List}
use native.Mathlib.Omega.{arith}
use borrow.Author.Count.{below_none, below_more}
use lib.ListN.{length, get_or, set, length-set}
use lib.Seq.{get_or-set_other}
use Rattle.std.proofs.lemmas.List.{set-get_or}
use Rattle.limits.specs.Limits.{most_arcs}
use Rattle.game.specs.Tree.{of_arc}
use Rattle.game.proofs.ArcEntries.{arc_entry}
use Rattle.key_passes.specs.declared.flags.Flag.{Flag}
use Rattle.key_passes.specs.declared.flags.Flag.TheVariants.{Below}
use Rattle.key_passes.specs.Passes.{at, flag_at, is_below, Rising, flag_of, Settled}
use Rattle.key_passes.proofs.Places.{written, lower_kept}

-- w is none of the first i vertices
abbrev Ahead : List ℕ → ℕ → ℕ → Type 0
Ahead order i w = (p : ℕ) → p < i → at order p ≡ w → ⊥

module _ (order links bounds pivots held : List ℕ) (flags₀ : List Flag) (lows₀ highs₀ : List ℕ) where
  -- the first i vertices are settled, and nothing else is written
  pub record Settling (flags : List Flag) (lows highs : List ℕ) (i : ℕ) : Type 0 where
    pub within : i ≤ length order
    pub flags_sized : length flags ≡ 1024
    pub lows_sized : length lows ≡ 1024
    pub highs_sized : length highs ≡ 1024
    pub flag : (p : ℕ) → p < i
        → flag_at flags (at order p)
        ≡ flag_of (at held (at order p)) (of_arc bounds (at order p)) (flag_at flags (at links (at order p)))
    pub low : (p : ℕ) → p < i
        → at lows (at order p)
        ≡ cond (is_below (flag_at flags (at order p))) (at lows₀ (at order p)) (at pivots (at order p))
    pub high : (p : ℕ) → p < i
        → at highs (at order p)
        ≡ cond (is_below (flag_at flags (at order p))) (at pivots (at order p)) (at highs₀ (at order p))
    pub flags_kept : (w : ℕ) → Ahead order i w → flag_at flags w ≡ flag_at flags₀ w
    pub lows_kept : (w : ℕ) → Ahead order i w → at lows w ≡ at lows₀ w
    pub highs_kept : (w : ℕ) → Ahead order i w → at highs w ≡ at highs₀ w

  pub settling_start : length flags₀ ≡ 1024 → length lows₀ ≡ 1024 → length highs₀ ≡ 1024
      → Settling flags₀ lows₀ highs₀ 0
  settling_start f l h =
      record {
        within = omega arith;
        flags_sized = f;
        lows_sized = l;
        highs_sized = h;
        flag = below_none _;
        low = below_none _;
        high = below_none _;
        flags_kept = λ w a. refl;
        lows_kept = λ w a. refl;
        highs_kept = λ w a. refl;
      }

  module _ {flags : List Flag} {lows highs : List ℕ} {i : ℕ} (s : Settling flags lows highs i) where
    pub settling_end : length order ≤ i
        → Settled order links bounds pivots held flags₀ lows₀ highs₀ flags lows highs
    settling_end h =
        record {
          flag = λ p b. s.flag p (omega arith);
          low = λ p b. s.low p (omega arith);
          high = λ p b. s.high p (omega arith);
          flags_kept = λ w o. s.flags_kept w (λ p b. o p (omega (arith, s.within)));
          lows_kept = λ w o. s.lows_kept w (λ p b. o p (omega (arith, s.within)));
          highs_kept = λ w o. s.highs_kept w (λ p b. o p (omega (arith, s.within)));
        }

    module _ (few : length bounds ≤ most_arcs) (r : Rising (length bounds) order links) (h : i < length order) where
      -- a list written at the turn's vertex
      here : {A : Type 0} (l : List A) (x none : A) → length l ≡ 1024
          → get_or (set l (at order i) x) (at order i) none ≡ x
      here = written r i h few

      lower : {A : Type 0} (l : List A) (x none : A) (w : ℕ) → w < at order i
          → get_or (set l (at order i) x) w none ≡ get_or l w none
      lower = lower_kept order i

      ahead_kept : {A : Type 0} (l : List A) (x none : A) (w : ℕ) → Ahead order (i + 1) w
          → get_or (set l (at order i) x) w none ≡ get_or l w none
      ahead_kept l x none w a = get_or-set_other l (at order i) w x none (λ e. a i (omega arith) (sym e))

      not_yet : Ahead order i (at order i)
      not_yet p b e = omega (arith, r.rising p i b h)

      -- the turn, by what is written at its vertex
      pub settling_on : (flag : Flag) (low high : ℕ)
          → let v = at order i in
          flag ≡ flag_of (at held v) (get_or bounds (v - 1) 0) (flag_at flags (at links v))
          → low ≡ cond (is_below flag) (at lows v) (at pivots v)
          → high ≡ cond (is_below flag) (at pivots v) (at highs v)
          → Settling (set flags v flag) (set lows v low) (set highs v high) (i + 1)
      settling_on flag low high f l g =
          record {
            within = omega arith;
            flags_sized = length-set flags (at order i) flag ∙ s.flags_sized;
            lows_sized = length-set lows (at order i) low ∙ s.lows_sized;
            highs_sized = length-set highs (at order i) high ∙ s.highs_sized;
            flag =
                below_more _ i
                (λ p b.
                let lt = r.rising p i b h in
                let below = r.lower p (omega arith) in
                rw
                (lower flags flag Below (at order p) lt, lower flags flag Below (at links (at order p)) (omega arith))
                (s.flag p b))
                (rw (here flags flag Below s.flags_sized, lower flags flag Below (at links (at order i)) (r.lower i h))
                (rw (arc_entry bounds (at order i) (r.first i h)) at f));
            low =
                below_more _ i
                (λ p b.
                let lt = r.rising p i b h in
                rw (lower lows low 0 (at order p) lt, lower flags flag Below (at order p) lt) (s.low p b))
                (rw
                (here lows low 0 s.lows_sized, here flags flag Below s.flags_sized, ← s.lows_kept _ not_yet)
                l);
            high =
                below_more _ i
                (λ p b.
                let lt = r.rising p i b h in
                rw (lower highs high 0 (at order p) lt, lower flags flag Below (at order p) lt) (s.high p b))
                (rw
                (here highs high 0 s.highs_sized, here flags flag Below s.flags_sized, ← s.highs_kept _ not_yet)
                g);
            flags_kept = λ w a. ahead_kept flags flag Below w a ∙ s.flags_kept w (λ p b. a p (omega arith));
            lows_kept = λ w a. ahead_kept lows low 0 w a ∙ s.lows_kept w (λ p b. a p (omega arith));
            highs_kept = λ w a. ahead_kept highs high 0 w a ∙ s.highs_kept w (λ p b. a p (omega arith));
          }

      -- v is the turn's vertex, and p its link
      module _ {v p : ℕ} {flag : Flag} (v_is : v ≡ at order i) (p_is : p ≡ at links v)
          (flag_is : flag ≡ flag_of (at held v) (get_or bounds (v - 1) 0) (flag_at flags p)) where
        flag_here : flag
            ≡ flag_of (at held (at order i)) (get_or bounds (at order i - 1) 0) (flag_at flags (at links (at order i)))
        flag_here = rw v_is at (rw p_is at flag_is)

        pub settling_below : {lows' highs' : List ℕ} → flag ≡ Below → lows' ≡ lows → highs' ≡ set highs v (at pivots v)
            → Settling (set flags v flag) lows' highs' (i + 1)
        settling_below e l g =
            rw (l, g, v_is, ← set-get_or lows (at order i) 0)
            (settling_on flag (at lows (at order i)) (at pivots (at order i)) flag_here (rw e) (rw e))

        pub settling_above : {lows' highs' : List ℕ} → is_below flag ≡ false → lows' ≡ set lows v (at pivots v)
            → highs' ≡ highs → Settling (set flags v flag) lows' highs' (i + 1)
        settling_above e l g =
            rw (l, g, v_is, ← set-get_or highs (at order i) 0)
            (settling_on flag (at pivots (at order i)) (at highs (at order i)) flag_here (rw e) (rw e))
