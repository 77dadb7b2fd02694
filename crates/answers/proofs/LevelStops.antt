-- What stops the level split: the lowest member whose floor is above its cap, and of the arcs from the last down the
-- first whose users' caps are short, or whose floors are too high.
use Prim.Native.Nat.{ℕ, zero, suc, ◌-◌, ◌≤◌, ◌<◌}
use mathlib.Core.Path.{◌≡◌, refl, sym, ap, ◌∙◌, subst}
use mathlib.Core.Bool.{Bool, true, false, ◌&&◌}
use mathlib.Core.Logic.{⊎_elim}
use mathlib.Core.List.{List}
use native.Mathlib.Decide.{dec_le, ℕ_discrete}
use native.Mathlib.Omega.{arith}
use borrow.Author.Tests.{eqb-true, eq-eqb, ltb-true, ltb-false, lt-ltb}
use lib.ListN.{get_or}
use lib.Dec.{eqb, ltb}
use Rattle.game.specs.Network.{Network, need, member_count}
use Rattle.game.specs.Floors.{adjusted}
use Rattle.basics.proofs.Bools.{both, clash, and_both, and_first, and_second}
use Rattle.basics.proofs.Sums.{In, in_cases, in_last, in_more}
use Rattle.answer_forms.specs.Answer.{Check, accepted, refused, fault, ◌then◌}
use Rattle.answers.specs.Checks.{one_by_one}
use Rattle.answers.specs.Level.{LevelAnswer, split, refusal, cap_sum, floors_check, stop_or, split_from}

-- an answer is a split or one refusal
pub not_both : {members number place shortfall : ℕ} → split members ≡ refusal number place shortfall → ⊥
not_both e = let z : ◌≡◌ {A = ℕ} 0 1 = cc in omega arith

pub same_refusal : {a b c k l m : ℕ} → refusal a b c ≡ refusal k l m → (a ≡ k) × (b ≡ l) × (c ≡ m)
same_refusal e = (cc, cc, cc)

module _ (caps floors : List ℕ) where
  -- what 27 finds among the members below m
  pub data Floors (m : ℕ) : Type 0 where
    fit : floors_check m caps floors ≡ accepted → ((j : ℕ) → j < m → get_or floors j 0 ≤ get_or caps j 0) → Floors m
    above : (j : ℕ) → j < m → floors_check m caps floors ≡ refused 27 j → get_or caps j 0 < get_or floors j 0
        → ((i : ℕ) → i < j → get_or floors i 0 ≤ get_or caps i 0) → Floors m

  module _ (m : ℕ) where
    at_next : Check
    at_next = fault (ltb (get_or caps m 0) (get_or floors m 0)) 27 m

    next : {c : Check} → floors_check m caps floors ≡ c → floors_check (suc m) caps floors ≡ (c then at_next)
    unfolding one_by_one at_next
    next e = ap (λ (x : Check). x then at_next) e

    floors_on : Floors m → Floors (suc m)
    unfolding at_next
    floors_on (above j h e a least) = above j (omega arith) (next e) a least
    floors_on (fit e all) =
        ⊎_elim
        (λ (b : ltb (get_or caps m 0) (get_or floors m 0) ≡ true).
        above m (omega arith) (next e ∙ ap (λ (x : Bool). fault x 27 m) b)
        (ltb-true (get_or caps m 0) (get_or floors m 0) b) all)
        (λ (b : ltb (get_or caps m 0) (get_or floors m 0) ≡ false).
        fit (next e ∙ ap (λ (x : Bool). fault x 27 m) b)
        (λ j h.
        elim (ℕ_discrete j m) [
          | yes d ↦
              subst (λ (i : ℕ). get_or floors i 0 ≤ get_or caps i 0) (sym d)
              (ltb-false (get_or caps m 0) (get_or floors m 0) b)
          | no d ↦ all j (omega arith)
        ]))
        (both (ltb (get_or caps m 0) (get_or floors m 0)))

  pub floors_found : (m : ℕ) → Floors m
  unfolding one_by_one
  floors_found zero = fit refl (λ j h. absurd (omega arith))
  floors_found (suc m) = floors_on m (floors_found m)

-- one arc: it is short, it is high, or nothing stops the split there
module _ (k parent need adjusted caps : ℕ) (next : LevelAnswer) where
  pub stop_short : ltb caps adjusted ≡ true → stop_or k parent need adjusted caps next ≡ refusal 9 k (adjusted - caps)
  stop_short s = rw s

  pub stop_high : ltb caps adjusted ≡ false → (eqb parent 0 && ltb need adjusted) ≡ true
      → stop_or k parent need adjusted caps next ≡ refusal 28 k 0
  stop_high s h = rw (s, h)

  pub stop_none : ltb caps adjusted ≡ false → (eqb parent 0 && ltb need adjusted) ≡ false
      → stop_or k parent need adjusted caps next ≡ next
  stop_none s h = rw (s, h)

module _ (n : Network) (caps floors : List ℕ) where
  -- nothing stops the split at arc f
  pub record Served (f : ℕ) : Type 0 where
    pub covered : adjusted n floors f ≤ cap_sum n caps f
    pub fits : n.parent f ≡ 0 → adjusted n floors f ≤ need n f

  -- what the arcs from k down answer
  pub data Walk (k : ℕ) : Type 0 where
    served : split_from n caps floors k ≡ split (member_count n) → ((f : ℕ) → In k f → Served f) → Walk k
    short : (a : ℕ) → In k a → split_from n caps floors k ≡ refusal 9 a (adjusted n floors a - cap_sum n caps a)
        → cap_sum n caps a < adjusted n floors a → ((f : ℕ) → a < f → f ≤ k → Served f) → Walk k
    high : (a : ℕ) → In k a → split_from n caps floors k ≡ refusal 28 a 0 → adjusted n floors a ≤ cap_sum n caps a
        → n.parent a ≡ 0 → need n a < adjusted n floors a → ((f : ℕ) → a < f → f ≤ k → Served f) → Walk k

  -- at arc suc k
  module _ (k : ℕ) where
    abbrev asked : ℕ
    asked = adjusted n floors (suc k)

    abbrev sum : ℕ
    sum = cap_sum n caps (suc k)

    abbrev source : Bool
    source = eqb (n.parent (suc k)) 0

    abbrev more : Bool
    more = ltb (need n (suc k)) asked

    -- the arc, and then those before it
    here : split_from n caps floors (suc k)
        ≡ stop_or (suc k) (n.parent (suc k)) (need n (suc k)) asked sum (split_from n caps floors k)
    unfolding split_from
    here = refl

    served_here : ltb sum asked ≡ false → (source && more) ≡ false → Served (suc k)
    served_here s h =
        record {
          covered = ltb-false sum asked s;
          fits = λ e.
              elim (dec_le asked (need n (suc k))) [
                | yes l ↦ l
                | no l ↦
                    absurd
                    (clash (and_both (eq-eqb (n.parent (suc k)) 0 e) (lt-ltb (need n (suc k)) asked (omega arith))) h)
              ];
        }

    others_on : (a : ℕ) → Served (suc k) → ((f : ℕ) → a < f → f ≤ k → Served f)
        → (f : ℕ) → a < f → f ≤ suc k → Served f
    others_on a last others f lo hi =
        elim (ℕ_discrete f (suc k)) [
          | yes d ↦ subst Served (sym d) last
          | no d ↦ others f lo (omega arith)
        ]

    later : Served (suc k) → split_from n caps floors (suc k) ≡ split_from n caps floors k → Walk k → Walk (suc k)
    later last same (served e all) =
        served (same ∙ e) (λ f i. in_cases k f i (all f) (λ d. subst Served (sym d) last))
    later last same (short a i e s others) = short a (in_more i) (same ∙ e) s (others_on a last others)
    later last same (high a i e c p h others) = high a (in_more i) (same ∙ e) c p h (others_on a last others)

    walk_on : Walk k → Walk (suc k)
    walk_on rest =
        ⊎_elim
        (λ (s : ltb sum asked ≡ true).
        short (suc k) (in_last k) (here ∙ stop_short (suc k) (n.parent (suc k)) (need n (suc k)) asked sum _ s)
        (ltb-true sum asked s) (λ f lo hi. absurd (omega arith)))
        (λ (s : ltb sum asked ≡ false).
        ⊎_elim
        (λ (h : (source && more) ≡ true).
        high (suc k) (in_last k) (here ∙ stop_high (suc k) (n.parent (suc k)) (need n (suc k)) asked sum _ s h)
        (ltb-false sum asked s) (eqb-true (n.parent (suc k)) 0 (and_first source more h))
        (ltb-true (need n (suc k)) asked (and_second source more h)) (λ f lo hi. absurd (omega arith)))
        (λ (h : (source && more) ≡ false).
        later (served_here s h)
        (here ∙ stop_none (suc k) (n.parent (suc k)) (need n (suc k)) asked sum _ s h) rest)
        (both (source && more)))
        (both (ltb sum asked))

  pub walk : (k : ℕ) → Walk k
  unfolding split_from
  walk zero = served refl (λ f i. absurd (omega (arith, i.low, i.high)))
  walk (suc k) = walk_on k (walk k)

  -- where the answer is a split every arc is served
  pub all_served : (k : ℕ) → split_from n caps floors k ≡ split (member_count n) → (f : ℕ) → In k f → Served f
  all_served k is = of (walk k)
    where
      of : Walk k → (f : ℕ) → In k f → Served f
      of (served e all) = all
      of (short a i e s others) = absurd (not_both (sym is ∙ e))
      of (high a i e c p h others) = absurd (not_both (sym is ∙ e))
