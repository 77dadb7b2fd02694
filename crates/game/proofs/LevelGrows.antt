-- The level rule where amounts grow, under the same caps: no share falls.
--
--   unit_grows, unit_ordered   one unit takes nothing away; it keeps the order of two lists
--   level_ordered              the lists of two rules, one with amounts that are nowhere smaller
use Prim.Native.Nat.{ℕ, zero, suc, ◌+◌, ◌≤◌, ◌<◌}
use mathlib.Core.Path.{◌≡◌, refl, ap, ◌∙◌}
use mathlib.Core.Bool.{true}
use mathlib.Core.List.{List}
use native.Mathlib.Decide.{dec_lt, ℕ_discrete}
use native.Mathlib.Omega.{arith}
use borrow.Author.Tests.{ltb-true, lt-ltb}
use lib.ListN.{length, get_or, replicate, length-set, length-replicate}
use lib.Seq.{get_or-set_same, get_or-set_other}
use lib.Dec.{ltb}
use Rattle.game.specs.Network.{Network, member_count}
use Rattle.game.specs.Core.{users}
use Rattle.game.specs.Level.{may_take, first_least, with_one_more, unit, units, arcs_down, level}
use Rattle.basics.proofs.Bools.{and_both, and_first, and_second}
use Rattle.basics.proofs.Sums.{In, in_last, in_more}
use Rattle.game.proofs.Smallest.{Least, first_least_lem, is_first}

module _ (n : Network) (caps : List ℕ) where
  -- one share a member in each list, none in the second below the first's
  pub record Ordered (l l' : List ℕ) : Type 0 where
    pub sized : length l ≡ member_count n
    pub sized' : length l' ≡ member_count n
    pub le : (j : ℕ) → get_or l j 0 ≤ get_or l' j 0

  -- c is whom a unit of arc k goes to
  abbrev Chosen : ℕ → List ℕ → ℕ → Type 0
  Chosen k l = Least (may_take n caps k l) (λ j. get_or l j 0) (member_count n)

  abbrev choice : ℕ → List ℕ → ℕ
  choice k l = first_least (may_take n caps k l) (λ j. get_or l j 0) (member_count n)

  chosen : (k : ℕ) (l : List ℕ) → Chosen k l (choice k l)
  chosen k l = first_least_lem (may_take n caps k l) (λ j. get_or l j 0) (member_count n)

  is_user : (k : ℕ) (l : List ℕ) (j : ℕ) → may_take n caps k l j ≡ true → users n k j ≡ true
  is_user k l j m = and_first (users n k j) (ltb (get_or l j 0) (get_or caps j 0)) m

  has_room : (k : ℕ) (l : List ℕ) (j : ℕ) → may_take n caps k l j ≡ true → get_or l j 0 < get_or caps j 0
  has_room k l j m =
      ltb-true (get_or l j 0) (get_or caps j 0) (and_second (users n k j) (ltb (get_or l j 0) (get_or caps j 0)) m)

  one_more_sized : (l : List ℕ) (c : ℕ) → length (with_one_more l c) ≡ length l
  one_more_sized l zero = refl
  one_more_sized l (suc i) = length-set l i (get_or l i 0 + 1)

  -- the one who is chosen has one unit more, and nobody has less
  one_more_at : (l : List ℕ) (i : ℕ) → i < length l → get_or (with_one_more l (suc i)) i 0 ≡ get_or l i 0 + 1
  one_more_at l i h = get_or-set_same l i (get_or l i 0 + 1) 0 h

  one_more_other : (l : List ℕ) (i j : ℕ) → (j ≡ i → ⊥) → get_or (with_one_more l (suc i)) j 0 ≡ get_or l j 0
  one_more_other l i j d = get_or-set_other l i j (get_or l i 0 + 1) 0 d

  module _ (k : ℕ) where
    pub unit_grows : (l : List ℕ) → length l ≡ member_count n → (j : ℕ) → get_or l j 0 ≤ get_or (unit n caps k l) j 0
    unit_grows l sized j = by (choice k l) (chosen k l)
      where
        by : (c : ℕ) → Chosen k l c → get_or l j 0 ≤ get_or (with_one_more l c) j 0
        by zero b = omega arith
        by (suc i) b =
            elim (ℕ_discrete j i) [
              | yes e ↦ rw e (omega (arith, one_more_at l i (omega (arith, (b.is_one (λ z. omega arith)).0))))
              | no e ↦ omega (arith, one_more_other l i j e)
            ]

    module _ (l l' : List ℕ) (o : Ordered l l') where
      -- whom the unit goes to in the first list gets it in the second, where both lists have the same for it
      module _ (i : ℕ) (b : Chosen k l (suc i)) (same : get_or l i 0 ≡ get_or l' i 0) where
        one : (i < member_count n) × (may_take n caps k l i ≡ true)
        one = b.is_one (λ z. omega arith)

        -- who may take a unit in the second list may in the first
        may_first : (u : ℕ) → may_take n caps k l' u ≡ true → may_take n caps k l u ≡ true
        may_first u m =
            and_both (is_user k l' u m)
            (lt-ltb (get_or l u 0) (get_or caps u 0) (omega (arith, has_room k l' u m, o.le u)))

        same_choice : choice k l' ≡ suc i
        same_choice =
            is_first (may_take n caps k l') (λ j. get_or l' j 0) i
            (and_both (is_user k l i one.1)
            (lt-ltb (get_or l' i 0) (get_or caps i 0) (omega (arith, has_room k l i one.1))))
            (λ u h m. omega (arith, b.is_lowest u h (may_first u m), o.le u)) (member_count n) one.0
            (λ u h m. omega (arith, (b.is_least u h (may_first u m)).1, o.le u))

        also_more : get_or l i 0 + 1 ≤ get_or (unit n caps k l') i 0
        also_more =
            omega (
              arith,
              ap (λ (c : ℕ). get_or (with_one_more l' c) i 0) same_choice,
              one_more_at l' i (omega (arith, one.0, o.sized')),
            )

      pub unit_ordered : Ordered (unit n caps k l) (unit n caps k l')
      unit_ordered =
          record {
            sized = one_more_sized l (choice k l) ∙ o.sized;
            sized' = one_more_sized l' (choice k l') ∙ o.sized';
            le = λ j. by (choice k l) (chosen k l) j;
          }
        where
          at_it : (i : ℕ) → Chosen k l (suc i) → get_or (with_one_more l (suc i)) i 0 ≡ get_or l i 0 + 1
              → get_or (with_one_more l (suc i)) i 0 ≤ get_or (unit n caps k l') i 0
          at_it i b e =
              elim (dec_lt (get_or l i 0) (get_or l' i 0)) [
                | yes h ↦ omega (arith, unit_grows l' o.sized' i)
                | no h ↦ omega (arith, also_more i b (omega (arith, o.le i)))
              ]

          by : (c : ℕ) → Chosen k l c → (j : ℕ) → get_or (with_one_more l c) j 0 ≤ get_or (unit n caps k l') j 0
          by zero b j = omega (arith, o.le j, unit_grows l' o.sized' j)
          by (suc i) b j =
              elim (ℕ_discrete j i) [
                | yes e ↦ rw e (at_it i b (one_more_at l i (omega (arith, (b.is_one (λ z. omega arith)).0, o.sized))))
                | no e ↦ omega (arith, one_more_other l i j e, o.le j, unit_grows l' o.sized' j)
              ]

    -- at least as many units in the second list
    units_ordered : (l l' : List ℕ) (t t' : ℕ) → t ≤ t' → Ordered l l' → Ordered (units n caps k t l) (units n caps k t' l')
    unfolding units
    units_ordered l l' zero zero h o = o
    units_ordered l l' zero (suc t') h o =
        let before = units_ordered l l' zero t' (omega arith) o in
        record {
          sized = o.sized;
          sized' = one_more_sized (units n caps k t' l') (choice k (units n caps k t' l')) ∙ before.sized';
          le = λ j. omega (arith, before.le j, unit_grows (units n caps k t' l') before.sized' j);
        }
    units_ordered l l' (suc t) zero h o = absurd (omega arith)
    units_ordered l l' (suc t) (suc t') h o =
        unit_ordered (units n caps k t l) (units n caps k t' l') (units_ordered l l' t t' (omega arith) o)

  module _ (amount amount' : ℕ → ℕ) where
    arcs_ordered : (l l' : List ℕ) (k : ℕ) → ((e : ℕ) → In k e → amount e ≤ amount' e) → Ordered l l'
        → Ordered (arcs_down n caps amount k l) (arcs_down n caps amount' k l')
    unfolding arcs_down
    arcs_ordered l l' zero h o = o
    arcs_ordered l l' (suc k) h o =
        arcs_ordered (units n caps (suc k) (amount (suc k)) l) (units n caps (suc k) (amount' (suc k)) l') k
        (λ e i. h e (in_more i))
        (units_ordered (suc k) l l' (amount (suc k)) (amount' (suc k)) (h (suc k) (in_last k)) o)

    pub level_ordered : ((e : ℕ) → In n.arcs e → amount e ≤ amount' e)
        → Ordered (level n caps amount) (level n caps amount')
    level_ordered h =
        arcs_ordered (replicate (member_count n) 0) (replicate (member_count n) 0) n.arcs h
        (record {
          sized = length-replicate {A = ℕ} (member_count n) 0;
          sized' = length-replicate {A = ℕ} (member_count n) 0;
          le = λ j. omega arith;
        })
