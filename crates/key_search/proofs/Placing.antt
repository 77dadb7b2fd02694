-- The members put at their vertices, and every vertex opened, in passes from the first to the last.
use Rattle.std.proofs.Common.{◌≡◌, ℕ, zero, suc, ◌+◌, ◌<◌, ◌≤◌, List, length, get_or, set, sym, ap, ◌∙◌, arith, length-set, get_or-set_other, get_or-set_same, below_none, below_more}
use native.Mathlib.Decide.{ℕ_discrete}
use Rattle.basics.proofs.Sums.{In}
use Rattle.game.specs.Tree.{of_arc}
use Rattle.key_passes.specs.Passes.{at, Apart, AtVertices}

module _ (vertices caps : List ℕ) where
  -- the members below j stand at their vertices
  pub record Placing (caps_at numbers_at : List ℕ) (j : ℕ) : Type 0 where
    pub caps_sized : length caps_at ≡ 1024
    pub numbers_sized : length numbers_at ≡ 1024
    pub cap : (i : ℕ) → i < j → at caps_at (at vertices i) ≡ at caps i
    pub number : (i : ℕ) → i < j → at numbers_at (at vertices i) ≡ i
    pub other : (w : ℕ) → ((i : ℕ) → i < j → at vertices i ≡ w → ⊥) → at caps_at w ≡ 0

  pub placing_start : {caps_at numbers_at : List ℕ} → length caps_at ≡ 1024 → length numbers_at ≡ 1024
      → ((w : ℕ) → at caps_at w ≡ 0) → Placing caps_at numbers_at 0
  placing_start c n zeros =
      record {
        caps_sized = c;
        numbers_sized = n;
        cap = below_none _;
        number = below_none _;
        other = λ w h. zeros w;
      }

  pub placing_end : {caps_at numbers_at : List ℕ} {j : ℕ} → length vertices ≤ j → Placing caps_at numbers_at j
      → j ≤ length vertices → AtVertices vertices caps caps_at numbers_at
  placing_end h s l =
      record {
        cap = λ i b. s.cap i (omega arith);
        number = λ i b. s.number i (omega arith);
        other = λ w out. s.other w (λ i b. out i (omega arith));
      }

  module _ (apart : Apart vertices) (caps_at numbers_at : List ℕ) (j : ℕ) (h : j < length vertices)
      (s : Placing caps_at numbers_at j) where
    v : ℕ
    v = at vertices j

    -- an earlier member's vertex is another
    earlier : (i : ℕ) → i < j → at vertices i ≡ v → ⊥
    unfolding v
    earlier i l e = omega (arith, apart.is i (omega arith), apart.is j h, ap apart.back e)

    pub placing_on : Placing (set caps_at (at vertices j) (at caps j)) (set numbers_at (at vertices j) j) (j + 1)
    unfolding v
    placing_on =
        record {
          caps_sized = length-set caps_at v (at caps j) ∙ s.caps_sized;
          numbers_sized = length-set numbers_at v j ∙ s.numbers_sized;
          cap =
              below_more _ j
              (λ i l. get_or-set_other caps_at v (at vertices i) (at caps j) 0 (earlier i l) ∙ s.cap i l)
              (get_or-set_same caps_at v (at caps j) 0 (omega (arith, s.caps_sized, apart.few j h)));
          number =
              below_more _ j
              (λ i l. get_or-set_other numbers_at v (at vertices i) j 0 (earlier i l) ∙ s.number i l)
              (get_or-set_same numbers_at v j 0 (omega (arith, s.numbers_sized, apart.few j h)));
          other = λ w out.
              get_or-set_other caps_at v w (at caps j) 0 (λ e. out j (omega arith) (sym e))
              ∙ s.other w (λ i l. out i (omega arith));
        }

-- the links of the vertices up to i are their parents
pub record Linking (parents links : List ℕ) (i : ℕ) : Type 0 where
  pub sized : length links ≡ 1024
  pub linked : (v : ℕ) → In i v → at links v ≡ of_arc parents v

pub linking_on : {parents links : List ℕ} (i : ℕ) → i < 1023 → Linking parents links i
    → Linking parents (set links (i + 1) (get_or parents i 0)) (i + 1)
linking_on {parents} {links} i h s =
    record {
      sized = length-set links (i + 1) (get_or parents i 0) ∙ s.sized;
      linked = λ v w.
          elim (ℕ_discrete v (i + 1)) [
            | yes e ↦ here v e
            | no e ↦ get_or-set_other links (i + 1) v (get_or parents i 0) 0 e ∙ s.linked v (omega arith)
          ];
    }
  where
    here : (v : ℕ) → v ≡ i + 1 → at (set links (i + 1) (get_or parents i 0)) v ≡ of_arc parents v
    here zero e = absurd (omega arith)
    here (suc u) e =
        let same : u ≡ i = omega arith in
        ap (at (set links (i + 1) (get_or parents i 0))) e
        ∙ get_or-set_same links (i + 1) (get_or parents i 0) 0 (omega (arith, s.sized))
        ∙ ap (λ (k : ℕ). get_or parents k 0) (sym same)
