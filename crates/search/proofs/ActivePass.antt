-- The active members in a pass from the source outward, and their words.
use Prim.Native.Nat.{ℕ, zero, suc, ◌+◌, ◌≤◌, ◌<◌}
use mathlib.Core.Path.{◌≡◌, refl, sym, ap, ap₂, ◌∙◌}
use mathlib.Core.Bool.{Bool, true, false, ◌&&◌, ◌||◌, and-true, and-false, or-false}
use mathlib.Core.Logic.{⊎_elim}
use mathlib.Core.List.{List, []}
use native.Mathlib.Decide.{dec_le}
use native.Mathlib.Nat.{add-zero}
use native.Mathlib.Numerals.{add-one}
use native.Mathlib.Omega.{arith}
use borrow.Author.Tests.{eqb-true, eq-eqb, ne_eqb, lt-ltb}
use lib.ListN.{length, get_or, set, replicate, length-set}
use lib.Seq.{get_or-set_same, get_or-set_other}
use lib.Dec.{eqb, ltb}
use Rattle.basics.specs.Sum.{pick}
use Rattle.game.specs.Network.{Network, number}
use Rattle.game.specs.Tree.{network_of, of_arc, marked}
use Rattle.basics.specs.Bit.{bit}
use Rattle.game.specs.Group.{words_of}
use Rattle.basics.proofs.Bools.{both, and_both, pick_yes, pick_no}
use Rattle.basics.proofs.Sums.{In, sum_longer}
use Rattle.game.proofs.Encoding.{bit_none, none_encoded}
use Rattle.game.proofs.Numbering.{before_member}
use Rattle.tree.specs.Passes.{Sound}
use Rattle.tree.proofs.MemberPass.{up_to, up_to_le, up_to_next}
use Rattle.search.specs.Passes.{Chosen}

module _ (ps ms excesses : List ℕ) where
  abbrev n : Network
  n = network_of ps [] ms

  -- the rule: an excess at the arc itself, and the parent is the source or active
  abbrev rule : (ℕ → Bool) → ℕ → Bool
  rule act v = ltb 0 (get_or excesses v 0) && (eqb (of_arc ps v) 0 || act (of_arc ps v))

  -- the arcs 1 to i have been met, j members among them
  pub record Choosing (active : List Bool) (words : List ℕ) (j i : ℕ) : Type 0 where
    pub places : length active ≡ 1024
    pub source : get_or active 0 false ≡ true
    pub ruled : (v : ℕ) → In i v → get_or active v false ≡ rule (λ u. get_or active u false) v
    pub met : j ≡ up_to ms i
    pub bits : (v : ℕ) → In i v → marked ms v ≡ true → bit words (number n v) ≡ get_or active v false
    pub none_beyond : (u : ℕ) → j ≤ u → bit words u ≡ false
    pub encoded : words ≡ words_of (bit words)

  pub choosing_start : Choosing (set (replicate 1024 false) 0 true) (replicate 16 0) 0 0
  choosing_start =
      record {
        places = refl;
        source = refl;
        ruled = λ v k. absurd (omega (arith, k.low, k.high));
        met = refl;
        bits = λ v k. absurd (omega (arith, k.low, k.high));
        none_beyond = λ u h. bit_none u;
        encoded = none_encoded;
      }

  pub choosing_end : {active : List Bool} {words : List ℕ} {j i : ℕ} → i ≡ length ps → Choosing active words j i
      → Chosen n excesses words
  choosing_end {active} e s =
      record {
        act = λ v. get_or active v false;
        active = λ v k. s.ruled v (omega (arith, k.low, k.high));
        bits = λ v k. s.bits v (omega (arith, k.low, k.high));
        none_beyond = λ j h. s.none_beyond j (omega (arith, s.met, ap (up_to ms) e));
        encoded = s.encoded;
      }

  module _ (sound : Sound ps) (i : ℕ) (within : i < length ps) {active : List Bool} {words : List ℕ} {j : ℕ}
      (s : Choosing active words j i) {on chosen : Bool}
      (is_on : on ≡ (ltb 0 (get_or excesses (suc i) 0) && get_or active (get_or ps i 0) false))
      (is_chosen : chosen ≡ (on && eqb (get_or ms i 0) 1)) where
    after : List Bool
    after = set active (suc i) on

    earlier : (v : ℕ) → v ≤ i → get_or after v false ≡ get_or active v false
    unfolding after
    earlier v h = get_or-set_other active (suc i) v on false (λ e. omega arith)

    newest : get_or after (suc i) false ≡ on
    unfolding after
    newest = get_or-set_same active (suc i) on false (omega (arith, s.places, sound.few))

    -- the source counts as active
    parent_rule : get_or active (get_or ps i 0) false ≡ (eqb (get_or ps i 0) 0 || get_or active (get_or ps i 0) false)
    parent_rule =
        ⊎_elim
        (λ (e : eqb (get_or ps i 0) 0 ≡ true). rw e
        (ap (λ (u : ℕ). get_or active u false) (eqb-true (get_or ps i 0) 0 e) ∙ s.source))
        (λ (e : eqb (get_or ps i 0) 0 ≡ false). rw e)
        (both (eqb (get_or ps i 0) 0))

    parent_before : (v : ℕ) → In (suc i) v → of_arc ps v ≤ i
    parent_before zero k = absurd (omega arith)
    parent_before (suc v) k = omega (arith, sound.rising v)

    ruled_on : (v : ℕ) → In (suc i) v → get_or after v false ≡ rule (λ u. get_or after u false) v
    ruled_on v k =
        elim (dec_le v i) [
          | yes h ↦ earlier v h ∙ s.ruled v (omega arith)
              ∙ ap (λ (b : Bool). ltb 0 (get_or excesses v 0) && (eqb (of_arc ps v) 0 || b))
              (sym (earlier (of_arc ps v) (parent_before v k)))
          | no h ↦ last (omega arith)
        ]
      where
        last : v ≡ suc i → get_or after v false ≡ rule (λ u. get_or after u false) v
        last e =
            rw e
            (newest ∙ is_on
            ∙ ap (λ (b : Bool). ltb 0 (get_or excesses (suc i) 0) && b)
            (parent_rule
            ∙ ap (λ (b : Bool). eqb (get_or ps i 0) 0 || b) (sym (earlier (get_or ps i 0) (sound.rising i)))))

    module _ (words' : List ℕ) {w : ℕ}
        (put : (u : ℕ) → bit words' u ≡ (bit words u || (chosen && (eqb u j && ltb j 1024))))
        (one : w ≡ pick (eqb (get_or ms i 0) 1) 1) where
      -- a number other than the next keeps its bit
      kept : (u : ℕ) → (u ≡ j → ⊥) → bit words' u ≡ bit words u
      kept u h =
          put u ∙ ap (λ (b : Bool). bit words u || (chosen && (b && ltb j 1024))) (ne_eqb u j h)
          ∙ ap (λ (b : Bool). bit words u || b) (and-false chosen) ∙ or-false (bit words u)

      bits_on : (v : ℕ) → In (suc i) v → marked ms v ≡ true → bit words' (number n v) ≡ get_or after v false
      bits_on v k m =
          elim (dec_le v i) [
            | yes h ↦
                kept (number n v)
                (λ e. omega (
                  arith,
                  s.met,
                  before_member (marked ms) v k.low m,
                  sum_longer v i (λ u. pick (marked ms u) 1) h,
                ))
                ∙ s.bits v (omega arith) m
                ∙ sym (earlier v h)
            | no h ↦ last (omega arith)
          ]
        where
          last : v ≡ suc i → bit words' (number n v) ≡ get_or after v false
          last e =
              ap (λ (u : ℕ). bit words' (number n u)) e
              ∙ ap (bit words') (sym s.met)
              ∙ put j
              ∙ ap₂ (λ (a b : Bool). a || (chosen && b)) (s.none_beyond j (omega arith))
              (and_both (eq-eqb j j refl) (lt-ltb j 1024 (omega (arith, s.met, up_to_le ms i, sound.few))))
              ∙ and-true chosen
              ∙ is_chosen
              ∙ ap (λ (b : Bool). on && b) (ap (marked ms) (sym e) ∙ m)
              ∙ and-true on
              ∙ sym newest
              ∙ ap (λ (u : ℕ). get_or after u false) (sym e)

      none_on : (u : ℕ) → j + w ≤ u → bit words' u ≡ false
      none_on u h =
          ⊎_elim
          (λ (m : eqb (get_or ms i 0) 1 ≡ true). kept u (λ d. omega (arith, one, pick_yes 1 m))
          ∙ s.none_beyond u (omega arith))
          (λ (m : eqb (get_or ms i 0) 1 ≡ false).
          put u
          ∙ ap (λ (b : Bool). bit words u || (b && (eqb u j && ltb j 1024)))
          (is_chosen ∙ ap (λ (b : Bool). on && b) m ∙ and-false on)
          ∙ or-false (bit words u)
          ∙ s.none_beyond u (omega arith))
          (both (eqb (get_or ms i 0) 1))

      -- the turn, by the two lists as it writes them
      pub choosing_on : words' ≡ words_of (bit words') → Choosing (set active (suc i) on) words' (j + w) (suc i)
      unfolding after
      choosing_on encodes =
          record {
            places = length-set active (suc i) on ∙ s.places;
            source = earlier 0 (omega arith) ∙ s.source;
            ruled = ruled_on;
            met = omega (arith, s.met, up_to_next ms {k = suc i} refl one);
            bits = bits_on;
            none_beyond = none_on;
            encoded = encodes;
          }

  -- arc i + 1, as the code writes its place
  module _ (sound : Sound ps) (i : ℕ) (within : i < length ps) {active : List Bool} {words : List ℕ} {j : ℕ}
      (s : Choosing active words j i) {on : Bool}
      (is_on : on ≡ (ltb 0 (get_or excesses (i + 1) 0) && get_or active (get_or ps i 0) false)) where
    pub choosing_member : get_or ms i 0 ≡ 1 → (words' : List ℕ)
        → ((u : ℕ) → bit words' u ≡ (bit words u || (on && (eqb u j && ltb j 1024)))) → words' ≡ words_of (bit words')
        → Choosing (set active (i + 1) on) words' (j + 1) (i + 1)
    choosing_member m words' put encodes =
        let is_member : eqb (get_or ms i 0) 1 ≡ true = eq-eqb (get_or ms i 0) 1 m in
        rw (add-one i)
        (choosing_on sound i within s (rw (add-one i) at is_on)
        (sym (ap (λ (b : Bool). on && b) is_member ∙ and-true on)) words' put (sym (pick_yes 1 is_member)) encodes)

    pub choosing_other : (get_or ms i 0 ≡ 1 → ⊥) → Choosing (set active (i + 1) on) words j (i + 1)
    choosing_other m =
        let no_member : eqb (get_or ms i 0) 1 ≡ false = ne_eqb (get_or ms i 0) 1 m in
        rw (add-one i)
        (rw add-zero at (choosing_on sound i within s (rw (add-one i) at is_on)
        (sym (ap (λ (b : Bool). on && b) no_member ∙ and-false on)) words (λ u. sym (or-false (bit words u)))
        (sym (pick_no 1 no_member)) s.encoded))
