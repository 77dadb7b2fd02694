-- The arcs from the last down, over the lists of needs, adjusted needs and cap sums.
use Prim.Native.Nat.{ℕ, zero, suc, ◌+◌, ◌≤◌}
use mathlib.Core.Path.{◌≡◌, refl, sym, ap, ◌∙◌}
use mathlib.Core.Bool.{true, false, ◌&&◌}
use mathlib.Core.Logic.{⊎_elim}
use mathlib.Core.List.{List, []}
use native.Mathlib.Numerals.{add-one}
use native.Mathlib.Omega.{arith}
use lib.ListN.{length, get_or}
use lib.Dec.{eqb, ltb}
use Rattle.std.specs.Prelude.{Result, Err}
use Rattle.basics.specs.Sum.{list}
use Rattle.game.specs.Network.{Network, sum_below, need, member_count}
use Rattle.game.specs.Tree.{network_of}
use Rattle.game.specs.Floors.{adjusted}
use Rattle.basics.proofs.Bools.{both}
use Rattle.basics.proofs.Lists.{list_at}
use Rattle.tree.specs.Passes.{network_at}
use Rattle.answers.specs.Level.{LevelAnswer, split, refusal, cap_sum, stop_or, split_from, list_after}
use Rattle.answers.proofs.LevelStops.{stop_short, stop_high, stop_none}
use Rattle.level.specs.Refusals.{answer_of}
use Rattle.level.specs.Stops.{stop_from}
use Rattle.level.specs.declared.refusal.LevelRefusal.{LevelRefusal}

-- the first answer where it is a refusal, else the second
abbrev or_else : LevelAnswer → LevelAnswer → LevelAnswer
or_else (split members) next = next
or_else (refusal number place shortfall) next = refusal number place shortfall

-- an arc where nothing stops the split leaves the answer to the next
stop_or_lem : (k parent need adjusted caps members : ℕ) (next : LevelAnswer)
    → stop_or k parent need adjusted caps next ≡ or_else (stop_or k parent need adjusted caps (split members)) next
stop_or_lem k parent need adjusted caps members next =
    ⊎_elim
    (λ (s : ltb caps adjusted ≡ true). both_ways (λ x. stop_short k parent need adjusted caps x s) refl)
    (λ (s : ltb caps adjusted ≡ false).
    ⊎_elim
    (λ (h : (eqb parent 0 && ltb need adjusted) ≡ true).
    both_ways (λ x. stop_high k parent need adjusted caps x s h) refl)
    (λ (h : (eqb parent 0 && ltb need adjusted) ≡ false).
    stop_none k parent need adjusted caps next s h
    ∙ sym (ap (λ (a : LevelAnswer). or_else a next) (stop_none k parent need adjusted caps (split members) s h)))
    (both (eqb parent 0 && ltb need adjusted)))
    (both (ltb caps adjusted))
  where
    -- where the arc stops the split, whatever comes after it
    both_ways : {a : LevelAnswer} → ((x : LevelAnswer) → stop_or k parent need adjusted caps x ≡ a)
        → or_else a next ≡ a
        → stop_or k parent need adjusted caps next ≡ or_else (stop_or k parent need adjusted caps (split members)) next
    both_ways is stops =
        is next ∙ sym (ap (λ (x : LevelAnswer). or_else x next) (is (split members)) ∙ stops)

module _ (members : ℕ) (ps ns ds ss : List ℕ) where
  pub none_left : {k : ℕ} → k ≡ 0 → stop_from members ps ns ds ss k ≡ split members
  unfolding stop_from
  none_left e = rw e

  -- at an arc, by what is found there
  module _ (k j : ℕ) (next : k ≡ suc j) {found : LevelAnswer}
      (is : found ≡ stop_or (j + 1) (get_or ps j 0) (get_or ns j 0) (get_or ds j 0) (get_or ss j 0) (split members)) where
    here : stop_from members ps ns ds ss k ≡ or_else found (stop_from members ps ns ds ss j)
    unfolding stop_from
    here =
        rw (is, next, add-one j)
        (stop_or_lem (suc j) (get_or ps j 0) (get_or ns j 0) (get_or ds j 0) (get_or ss j 0) members
        (stop_from members ps ns ds ss j))

    pub stop_here : {number arc shortfall : ℕ} → found ≡ refusal number arc shortfall
        → found ≡ stop_from members ps ns ds ss k
    stop_here e = sym (here ∙ rw e)

    pub stop_later : found ≡ split members → stop_from members ps ns ds ss k ≡ stop_from members ps ns ds ss j
    stop_later e = here ∙ rw e

-- a refusal leaves the list as it came
pub list_kept : {r : Result Unit LevelRefusal} {stop : LevelRefusal} → r ≡ Err stop
    → (members : ℕ) (out shares : List ℕ) → out ≡ list_after (answer_of members r) out shares
list_kept e members out shares = rw e

-- over the lists of a network
module _ (ps cs vs caps floors : List ℕ) where
  abbrev n : Network
  n = network_at ps cs vs

  stop_arcs : (m k : ℕ) → k ≤ m
      → stop_from (member_count n) ps (list m (need n)) (list m (adjusted n floors)) (list m (cap_sum n caps)) k
      ≡ split_from n caps floors k
  unfolding stop_from split_from
  stop_arcs m zero h = refl
  stop_arcs m (suc k) h =
      rw (
        list_at (need n) 0 m k (omega arith),
        list_at (adjusted n floors) 0 m k (omega arith),
        list_at (cap_sum n caps) 0 m k (omega arith),
      )
      (ap
      (stop_or (suc k) (get_or ps k 0) (need n (suc k)) (adjusted n floors (suc k)) (cap_sum n caps (suc k)))
      (stop_arcs m k (omega arith)))

  -- the lists that the passes wrote: who is a member does not decide the needs, nor costs what the caps add up to
  pub stop_answer : {ns ds ss : List ℕ}
      → ns ≡ list (length ps) (need (network_of ps cs []))
      → ds ≡ list (length ps) (adjusted n floors)
      → ss ≡ list (length ps) (cap_sum (network_at ps [] vs) caps)
      → stop_from (member_count n) ps ns ds ss (length ps) ≡ split_from n caps floors (length ps)
  unfolding sum_below
  stop_answer e f g = rw (e, f, g) (stop_arcs (length ps) (length ps) (omega arith))
