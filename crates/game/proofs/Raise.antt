-- Units given out one by one raise an arc's users to a level, the lowest numbers first.
use Prim.Native.Nat.{ℕ, zero, suc, ◌+◌, ◌-◌, ◌≤◌, ◌<◌}
use mathlib.Core.Path.{◌≡◌, sym, ap, ◌∙◌, subst}
use mathlib.Core.Bool.{true, false}
use mathlib.Core.Logic.{◌⊎◌, inl, inr, ⊎_elim}
use mathlib.Core.List.{List}
use native.Mathlib.Decide.{dec_lt, ℕ_discrete}
use native.Mathlib.Numerals.{add-one}
use native.Mathlib.Omega.{arith}
use borrow.Author.Tests.{eq-eqb, ne_eqb, ltb-true, lt-ltb, le-ltb}
use lib.ListN.{length, get_or, set, length-set}
use lib.Seq.{get_or-set_same, get_or-set_other}
use lib.Dec.{eqb, ltb}
use Rattle.basics.specs.Sum.{pick, smaller}
use Rattle.game.specs.Network.{Network, member_count}
use Rattle.game.specs.Core.{users}
use Rattle.game.specs.Level.{may_take, first_least, unit, units}
use Rattle.game.proofs.Rise.{rise, fill}
use Rattle.basics.proofs.Bools.{both, and_both, and_first, and_second, pick_yes, pick_no, smaller_is}
use Rattle.basics.proofs.Sums.{sum₀_cong, sum₀_add, sum₀_zero, sum₀_at}
use Rattle.game.proofs.Smallest.{is_first}

module _ (n : Network) (caps : List ℕ) (k : ℕ) (l : List ℕ) where
  -- r is the list l with arc k's users raised
  pub record Raised (level q : ℕ) (r : List ℕ) : Type 0 where
    pub sized : length r ≡ member_count n
    pub raised : (j : ℕ) → j < member_count n → get_or r j 0 ≡ get_or l j 0 + rise n caps k l level q j

  -- another user's part is the same
  rise_other : (level q j : ℕ) → (j ≡ q → ⊥) → rise n caps k l level (suc q) j ≡ rise n caps k l level q j
  rise_other level q j d =
      elim (dec_lt j q) [
        | yes h ↦ ap (λ b. pick (users n k j) (smaller (get_or caps j 0) (level + pick b 1) - get_or l j 0))
            (lt-ltb j (suc q) (omega arith) ∙ sym (lt-ltb j q h))
        | no h ↦ ap (λ b. pick (users n k j) (smaller (get_or caps j 0) (level + pick b 1) - get_or l j 0))
            (le-ltb j (suc q) (omega arith) ∙ sym (le-ltb j q (omega arith)))
      ]

  -- what a user takes on the way to its own level, or to its cap
  rise_user : (level q j : ℕ) → users n k j ≡ true
      → rise n caps k l level q j ≡ (get_or caps j 0 - (get_or caps j 0 - (level + pick (ltb j q) 1))) - get_or l j 0
  rise_user level q j u =
      pick_yes (smaller (get_or caps j 0) (level + pick (ltb j q) 1) - get_or l j 0) u
      ∙ ap (λ (a : ℕ). a - get_or l j 0) (smaller_is (get_or caps j 0) (level + pick (ltb j q) 1))

  -- nobody takes anything at level 0
  raised_none : (j : ℕ) → rise n caps k l 0 0 j ≡ 0
  raised_none j =
      ⊎_elim
      (λ (u : users n k j ≡ true). omega (arith, rise_user 0 0 j u, pick_no 1 (le-ltb j 0 (omega arith))))
      (λ (u : users n k j ≡ false). pick_no (smaller (get_or caps j 0) (0 + pick (ltb j 0) 1) - get_or l j 0) u)
      (both (users n k j))

  -- all numbers served at a level are none at the next
  next_level : (level q j : ℕ) → member_count n ≤ q → j < member_count n
      → rise n caps k l level q j ≡ rise n caps k l (suc level) 0 j
  next_level level q j all h =
      ap (λ (a : ℕ). pick (users n k j) (smaller (get_or caps j 0) a - get_or l j 0))
      (omega (arith, pick_yes 1 (lt-ltb j q (omega arith)), pick_no 1 (le-ltb j 0 (omega arith))))

  module _ (level q : ℕ) where
    -- number q is served on the way from a level to the next
    record Served : Type 0 where
      is_member : q < member_count n
      is_user : users n k q ≡ true
      reached : get_or l q 0 ≤ level
      room : level < get_or caps q 0

    -- no member's part changes
    record Unserved : Type 0 where
      same : (j : ℕ) → j < member_count n → rise n caps k l level (suc q) j ≡ rise n caps k l level q j

    -- it is enough that q's does not
    unserved : rise n caps k l level (suc q) q ≡ rise n caps k l level q q → Unserved
    unserved e =
        record {
          same = λ j i.
              elim (ℕ_discrete j q) [
                | yes d ↦ subst (λ (u : ℕ). rise n caps k l level (suc q) u ≡ rise n caps k l level q u) (sym d) e
                | no d ↦ rise_other level q j d
              ];
        }

    -- what user q takes, with its number below the bound and not
    served_parts : users n k q ≡ true
        → (rise n caps k l level (suc q) q ≡ (get_or caps q 0 - (get_or caps q 0 - (level + 1))) - get_or l q 0)
        × (rise n caps k l level q q ≡ (get_or caps q 0 - (get_or caps q 0 - level)) - get_or l q 0)
    served_parts u = (
      omega (arith, rise_user level (suc q) q u, pick_yes 1 (lt-ltb q (suc q) (omega arith))),
      omega (arith, rise_user level q q u, pick_no 1 (le-ltb q q (omega arith))),
    )

    served_or_not : Served ⊎ Unserved
    served_or_not =
        elim (dec_lt q (member_count n)) [
          | yes h ↦ ⊎_elim
              (λ (u : users n k q ≡ true).
              elim (dec_lt level (get_or l q 0)) [
                | yes g ↦ inr (unserved (omega (arith, (served_parts u).0, (served_parts u).1)))
                | no g ↦ elim (dec_lt level (get_or caps q 0)) [
                  | yes r ↦ inl (record { is_member = h; is_user = u; reached = omega arith; room = r })
                  | no r ↦ inr (unserved (omega (arith, (served_parts u).0, (served_parts u).1)))
                ]
              ])
              (λ (u : users n k q ≡ false).
              inr
              (unserved
              (pick_no (smaller (get_or caps q 0) (level + pick (ltb q (suc q)) 1) - get_or l q 0) u
              ∙ sym (pick_no (smaller (get_or caps q 0) (level + pick (ltb q q) 1) - get_or l q 0) u))))
              (both (users n k q))
          | no h ↦ inr (record { same = λ j i. rise_other level q j (λ e. omega arith) })
        ]

    rise_served : Served → rise n caps k l level (suc q) q ≡ rise n caps k l level q q + 1
    rise_served s = omega (arith, (served_parts s.is_user).0, (served_parts s.is_user).1, s.reached, s.room)

    -- the others' parts are the same, so the sum goes with q's
    fill_not : Unserved → fill n caps k l level (suc q) ≡ fill n caps k l level q
    fill_not s = sum₀_cong (member_count n) s.same

    fill_served : Served → fill n caps k l level (suc q) ≡ fill n caps k l level q + 1
    fill_served s =
        sum₀_cong (member_count n) (λ j h. one_more j)
        ∙ sum₀_add (member_count n) (rise n caps k l level q) (λ j. pick (eqb q j) 1)
        ∙ ap (λ (a : ℕ). fill n caps k l level q + a) (sum₀_at (member_count n) q (λ j. 1) s.is_member)
      where
        one_more : (j : ℕ) → rise n caps k l level (suc q) j ≡ rise n caps k l level q j + pick (eqb q j) 1
        one_more j =
            elim (ℕ_discrete j q) [
              | yes d ↦
                  omega (
                    arith,
                    pick_yes 1 (eq-eqb q j (sym d)),
                    subst (λ (j : ℕ). rise n caps k l level (suc q) j ≡ rise n caps k l level q j + 1) (sym d)
                        (rise_served s),
                  )
              | no d ↦ omega (arith, pick_no 1 (ne_eqb q j (λ e. d (sym e))), rise_other level q j d)
            ]

    -- one number more takes one unit more, or nothing
    pub fill_step : fill n caps k l level (suc q) ≤ fill n caps k l level q + 1
    fill_step =
        ⊎_elim (λ (s : Served). omega (arith, fill_served s))
        (λ (s : Unserved). omega (arith, fill_not s)) served_or_not

    -- the rule's next unit goes to q
    module _ (r : List ℕ) (s : Served) (up : Raised level q r) where
      has_level : get_or r q 0 ≡ level
      has_level = omega (arith, up.raised q s.is_member, (served_parts s.is_user).1, s.reached, s.room)

      may_q : may_take n caps k r q ≡ true
      may_q = and_both s.is_user (lt-ltb (get_or r q 0) (get_or caps q 0) (omega (arith, has_level, s.room)))

      -- one that may take a unit has its level or more
      at_least : (u : ℕ) → u < member_count n → may_take n caps k r u ≡ true → level + pick (ltb u q) 1 ≤ get_or r u 0
      at_least u i m =
          omega (
            arith,
            up.raised u i,
            rise_user level q u (and_first (users n k u) (ltb (get_or r u 0) (get_or caps u 0)) m),
            ltb-true (get_or r u 0) (get_or caps u 0) (and_second (users n k u) (ltb (get_or r u 0) (get_or caps u 0)) m),
          )

      chosen : first_least (may_take n caps k r) (λ j. get_or r j 0) (member_count n) ≡ suc q
      chosen =
          is_first (may_take n caps k r) (λ j. get_or r j 0) q may_q
          (λ u i m. omega
          (arith, has_level, at_least u (omega (arith, s.is_member)) m, pick_yes 1 (lt-ltb u q i)))
          (member_count n) s.is_member
          (λ u i m. omega (arith, has_level, at_least u i m))

      raised_unit : Raised level (suc q) (unit n caps k r)
      raised_unit =
          rw chosen
          (record {
            sized = length-set r q (get_or r q 0 + 1) ∙ up.sized;
            raised = λ j i.
                elim (ℕ_discrete j q) [
                  | yes d ↦ subst
                      (λ (u : ℕ). get_or (set r q (get_or r q 0 + 1)) u 0 ≡ get_or l u 0 + rise n caps k l level (suc q) u)
                      (sym d)
                      (omega (
                        arith,
                        get_or-set_same r q (get_or r q 0 + 1) 0 (omega (arith, up.sized, s.is_member)),
                        up.raised q s.is_member,
                        rise_served s,
                      ))
                  | no d ↦ omega
                      (arith, get_or-set_other r q j (get_or r q 0 + 1) 0 d, up.raised j i, rise_other level q j d)
                ];
          })

    raised_same : (r : List ℕ) → Unserved → Raised level q r → Raised level (suc q) r
    raised_same r s up = record { sized = up.sized; raised = λ j i. omega (arith, up.raised j i, s.same j i) }

    one_number : Raised level q (units n caps k (fill n caps k l level q) l)
        → Raised level (suc q) (units n caps k (fill n caps k l level (suc q)) l)
    unfolding units
    one_number up =
        ⊎_elim
        (λ (s : Served).
        subst (λ (t : ℕ). Raised level (suc q) (units n caps k t l))
        (sym (fill_served s ∙ add-one (fill n caps k l level q)))
        (raised_unit (units n caps k (fill n caps k l level q) l) s up))
        (λ (s : Unserved).
        subst (λ (t : ℕ). Raised level (suc q) (units n caps k t l)) (sym (fill_not s))
        (raised_same (units n caps k (fill n caps k l level q) l) s up))
        served_or_not

  up_to : (level q : ℕ) → Raised level 0 (units n caps k (fill n caps k l level 0) l)
      → Raised level q (units n caps k (fill n caps k l level q) l)
  up_to level zero up = up
  up_to level (suc q) up = one_number level q (up_to level q up)

  -- everybody one above a level
  pub fill_next_level : (level q : ℕ) → member_count n ≤ q → fill n caps k l level q ≡ fill n caps k l (suc level) 0
  fill_next_level level q all = sum₀_cong (member_count n) (λ j h. next_level level q j all h)

  to_next : (level q : ℕ) → member_count n ≤ q → Raised level q (units n caps k (fill n caps k l level q) l)
      → Raised (suc level) 0 (units n caps k (fill n caps k l (suc level) 0) l)
  to_next level q all full =
      subst (λ (t : ℕ). Raised (suc level) 0 (units n caps k t l)) (fill_next_level level q all)
      (record {
        sized = full.sized;
        raised = λ j i. full.raised j i ∙ ap (λ (a : ℕ). get_or l j 0 + a) (next_level level q j all i);
      })

  -- as many units as a level takes, given out one by one, raise arc k's users to that level
  pub units_raise : length l ≡ member_count n → (level q : ℕ)
      → Raised level q (units n caps k (fill n caps k l level q) l)
  unfolding units
  units_raise len zero q =
      up_to 0 q
      (subst (λ (t : ℕ). Raised 0 0 (units n caps k t l)) (sym (sum₀_zero (member_count n) (λ j h. raised_none j)))
      (record { sized = len; raised = λ j i. omega (arith, raised_none j) }))
  units_raise len (suc level) q =
      up_to (suc level) q (to_next level (member_count n) (omega arith) (units_raise len level (member_count n)))
