-- What a group pays and overpays, by vertex instead of by member number, and in ℕ instead of ℤ.
--
--   members_sum, by_vertex        a sum over member numbers as a sum over vertices
--   less_pays, less_over          pays and overpayment by their parts
--   cost_same, overpayment_same   groups that agree on the members
--   meet_overpays                 two groups that overpay most: so does what they share
use Prim.Native.Nat.{ℕ, zero, suc, pred, ◌+◌, ◌≤◌, ◌<◌}
use mathlib.Core.Path.{◌≡◌, refl, sym, ap, ap₂, ◌∙◌}
use mathlib.Core.Bool.{Bool, true, false, not, ◌&&◌, ◌||◌}
use mathlib.Core.Logic.{⊎_elim}
use mathlib.Core.List.{List}
use native.Mathlib.Omega.{arith}
use lib.IntN.{ℤ, pos, ◌+ℤ◌, ◌-ℤ◌}
use lib.Signed.{◌≤ℤ◌}
use Rattle.basics.specs.Sum.{pick, sum, count, sum₀}
use Rattle.game.specs.Network.{Network, at_or_below, used, group_cost, number, member_count}
use Rattle.game.specs.Group.{group_by_number}
use Rattle.basics.specs.Integer.{plus, minus, sum_ℤ, pick_ℤ}
use Rattle.game.specs.Proposal.{share, pays, overpayment}
use Rattle.basics.proofs.Bools.{both, same_test, and_first, or_first, pick_swap}
use Rattle.basics.proofs.Sums.{In, sum_cong, sum_add, sum_longer}
use Rattle.game.proofs.Groups.{used_of, used_by, submodular}
use Rattle.game.proofs.Numbering.{before_member}
use Rattle.basics.proofs.Integers.{Less, less_parts, less_minus, less_sum, less_le, le_less}

-- a sum over member numbers is one over the members' vertices
pub members_sum : (m : ℕ) (mem : ℕ → Bool) (x : ℕ → ℕ)
    → sum₀ (count m mem) x ≡ sum m (λ v. pick (mem v) (x (count (pred v) mem)))
members_sum zero mem x = refl
members_sum (suc m) mem x =
    ⊎_elim
    (λ (e : mem (suc m) ≡ true).
    let more : count m mem + pick (mem (suc m)) 1 ≡ suc (count m mem) = rw e (omega arith) in
    ap (λ (k : ℕ). sum₀ k x) more
    ∙ ap₂ (λ (s : ℕ) (b : Bool). s + pick b (x (count m mem))) (members_sum m mem x) (sym e))
    (λ (e : mem (suc m) ≡ false).
    let same : count m mem + pick (mem (suc m)) 1 ≡ count m mem = rw e (omega arith) in
    ap (λ (k : ℕ). sum₀ k x) same ∙ members_sum m mem x ∙ rw e (omega arith))
    (both (mem (suc m)))

module _ (n : Network) where
  pub number_lt : (v : ℕ) → In n.arcs v → n.member v ≡ true → number n v < member_count n
  number_lt v i m =
      omega
      (arith, before_member n.member v i.low m, sum_longer v n.arcs (λ k. pick (n.member k) 1) i.high)

  -- a group's cost goes by its members alone
  pub cost_same : (g h : ℕ → Bool) → ((v : ℕ) → In n.arcs v → n.member v ≡ true → g v ≡ h v)
      → group_cost n g ≡ group_cost n h
  unfolding group_cost
  cost_same g h same =
      sum_cong n.arcs
      (λ k i. ap (λ (b : Bool). pick b (n.cost k))
      (same_test (used n g k) (used n h k) (over g h k same) (over h g k (λ v j m. sym (same v j m)))))
    where
      over : (g h : ℕ → Bool) (k : ℕ) → ((v : ℕ) → In n.arcs v → n.member v ≡ true → g v ≡ h v)
          → used n g k ≡ true → used n h k ≡ true
      over g h k same u =
          let b = used_by n g k u in
          used_of n
          (record {
            by = b.by;
            within = b.within;
            chosen =
                sym (same b.by b.within (and_first (n.member b.by) (at_or_below n k b.by) b.uses))
                ∙ b.chosen;
            uses = b.uses;
          })

  -- two groups cost at least what they cost joined and what they share
  cost_meet_join : (g h : ℕ → Bool)
      → group_cost n (λ v. g v || h v) + group_cost n (λ v. g v && h v) ≤ group_cost n g + group_cost n h
  cost_meet_join g h =
      omega (
        arith,
        submodular n g (λ v. g v || h v) (λ v. g v && not (h v)) (λ v e. or_first (h v) e)
            (λ v e d. and_first (g v) (not (h v)) d),
        cost_same (λ v. g v && not (g v && not (h v))) (λ v. g v && h v) (λ v i m. meet (g v) (h v)),
        cost_same (λ v. (g v || h v) && not (g v && not (h v))) h (λ v i m. rest (g v) (h v)),
      )
    where
      meet : (a b : Bool) → (a && not (a && not b)) ≡ (a && b)
      meet true true = refl
      meet true false = refl
      meet false b = refl

      rest : (a b : Bool) → ((a || b) && not (a && not b)) ≡ b
      rest true true = refl
      rest true false = refl
      rest false true = refl
      rest false false = refl

  sum_meet_join : (x : ℕ → ℕ) (g h : ℕ → Bool)
      → sum n.arcs (λ v. pick (g v || h v) (x v)) + sum n.arcs (λ v. pick (g v && h v) (x v))
      ≡ sum n.arcs (λ v. pick (g v) (x v)) + sum n.arcs (λ v. pick (h v) (x v))
  sum_meet_join x g h =
      sym (sum_add n.arcs (λ v. pick (g v || h v) (x v)) (λ v. pick (g v && h v) (x v)))
      ∙ sum_cong n.arcs (λ v i. both_parts (g v) (h v) (x v))
      ∙ sum_add n.arcs (λ v. pick (g v) (x v)) (λ v. pick (h v) (x v))
    where
      both_parts : (a b : Bool) (x : ℕ) → pick (a || b) x + pick (a && b) x ≡ pick a x + pick b x
      both_parts true b x = refl
      both_parts false b x = omega arith

  -- what a group has of a weight of the vertices
  abbrev pub group_sum : (ℕ → ℕ) → (ℕ → Bool) → ℕ
  group_sum x g = sum n.arcs (λ v. pick (group_by_number n g v) (x v))

  pub by_vertex : (g : ℕ → Bool) (x : ℕ → ℕ)
      → sum₀ (member_count n) (λ j. pick (g j) (x j)) ≡ group_sum (λ v. pick (n.member v) (x (number n v))) g
  by_vertex g x =
      members_sum n.arcs n.member (λ j. pick (g j) (x j))
      ∙ sum_cong n.arcs (λ v i. pick_swap (n.member v) (g (number n v)) (x (number n v)))

  module _ (shares : List ℤ) where
    -- the positive and the negative part of a member's share, at its vertex; 0 elsewhere
    abbrev pub over_at : ℕ → ℕ
    over_at v = pick (n.member v) (plus (share shares (number n v)))

    abbrev pub under_at : ℕ → ℕ
    under_at v = pick (n.member v) (minus (share shares (number n v)))

    pub less_pays : (g : ℕ → Bool) → Less (pays n shares g) (group_sum over_at g) (group_sum under_at g)
    unfolding pays
    less_pays g =
        omega (
          arith,
          less_sum (member_count n) g (share shares),
          by_vertex g (λ j. plus (share shares j)),
          by_vertex g (λ j. minus (share shares j)),
        )

    pub less_over : (g : ℕ → Bool)
        → Less (overpayment n shares g) (group_sum over_at g) (group_sum under_at g + group_cost n (group_by_number n g))
    less_over g =
        omega (
          arith,
          less_minus (pays n shares g) (pos (group_cost n (group_by_number n g))) (less_pays g)
              (less_parts (pos (group_cost n (group_by_number n g)))),
        )

    -- groups with the same members overpay the same
    pub overpayment_same : (g h : ℕ → Bool) → ((j : ℕ) → j < member_count n → g j ≡ h j)
        → overpayment n shares g ≡ overpayment n shares h
    unfolding pays
    overpayment_same g h same =
        ap₂ (λ (a : ℤ) (c : ℕ). a -ℤ pos c) (sum_same (member_count n) same)
        (cost_same (group_by_number n g) (group_by_number n h) (λ v i m. same (number n v) (number_lt v i m)))
      where
        sum_same : (m : ℕ) → ((j : ℕ) → j < m → g j ≡ h j)
            → sum_ℤ m (λ j. pick_ℤ (g j) (share shares j)) ≡ sum_ℤ m (λ j. pick_ℤ (h j) (share shares j))
        sum_same zero e = refl
        sum_same (suc m) e =
            ap₂ (λ (a : ℤ) (b : Bool). a +ℤ pick_ℤ b (share shares m)) (sum_same m (λ j l. e j (omega arith)))
            (e m (omega arith))

    -- a group that overpays as much as one that overpays most shares as much with it
    pub meet_overpays : (g h : ℕ → Bool) → overpayment n shares (λ j. g j || h j) ≤ℤ overpayment n shares g
        → overpayment n shares g ≤ℤ overpayment n shares h
        → overpayment n shares g ≤ℤ overpayment n shares (λ j. g j && h j)
    meet_overpays g h most much =
        less_le (overpayment n shares g) (overpayment n shares (λ j. g j && h j)) (less_over g)
        (less_over (λ j. g j && h j))
        (omega (
          arith,
          le_less (overpayment n shares (λ j. g j || h j)) (overpayment n shares g) (less_over (λ j. g j || h j))
              (less_over g) most,
          le_less (overpayment n shares g) (overpayment n shares h) (less_over g) (less_over h) much,
          sum_meet_join over_at (group_by_number n g) (group_by_number n h),
          sum_meet_join under_at (group_by_number n g) (group_by_number n h),
          cost_meet_join (group_by_number n g) (group_by_number n h),
        ))
