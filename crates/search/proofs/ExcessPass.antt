-- The excesses in a pass from the last arc down that carries each to the arc's parent.
use Prim.Native.Nat.{ℕ, suc, ◌+◌, ◌-◌, ◌≤◌, ◌<◌}
use mathlib.Core.Path.{◌≡◌, refl, sym, ap, ap₂, ◌∙◌, subst}
use mathlib.Core.Bool.{true, false}
use mathlib.Core.List.{List}
use native.Mathlib.Decide.{ℕ_discrete}
use native.Mathlib.Numerals.{add-one}
use native.Mathlib.Omega.{arith}
use borrow.Author.Tests.{eq-eqb, ne_eqb}
use lib.ListN.{length, get_or, set, replicate, length-set, length-replicate}
use lib.Seq.{get_or-set_same, get_or-set_other}
use lib.IntN.{ℤ}
use lib.Dec.{eqb}
use Rattle.limits.specs.Inner.{most_total}
use Rattle.basics.specs.Sum.{pick, sum}
use Rattle.game.specs.Network.{Network, number, member_count}
use Rattle.game.specs.Tree.{network_of, of_arc, marked}
use Rattle.basics.specs.Integer.{plus}
use Rattle.game.specs.Proposal.{share}
use Rattle.basics.proofs.Bools.{pick_yes, pick_no}
use Rattle.basics.proofs.Sums.{In, sum_cong, term_le}
use Rattle.game.proofs.Certificate.{children}
use Rattle.game.proofs.Excess.{Excess}
use Rattle.game.proofs.ExcessOf.{excess_of, excess_of_lem, excess_le}
use Rattle.game.proofs.Overpayment.{over_at, number_lt}
use Rattle.tree.proofs.Carry.{amounts, child, Carried, carried_start, carried_at, carried_on}
use Rattle.tree.proofs.MemberPass.{up_to, up_to_next, up_to_number}
use Rattle.search.specs.Passes.{Exceeding}
use Rattle.search.proofs.Bound.{Proposed, weights_bound}

-- of arc i + 1: its vertex's number, if it is a member, and that member's weight with what the arcs below exceed by
pub record Met (ms : List ℕ) (shares : List ℤ) (below : List ℕ) (i j j' amount : ℕ) : Type 0 where
  pub number_is : j' ≡ j - pick (eqb (get_or ms i 0) 1) 1
  pub amount_is : amount ≡ get_or below (i + 1) 0
      + pick (eqb (get_or ms i 0) 1) (plus (share shares (j - pick (eqb (get_or ms i 0) 1) 1)))

module _ (ps cs ms : List ℕ) (shares : List ℤ) where
  abbrev n : Network
  n = network_of ps cs ms

  abbrev weight : ℕ → ℕ
  weight = over_at n shares

  abbrev pub excess : ℕ → ℕ
  excess = excess_of n weight

  -- with the arcs 1 to k still to come, j members among them
  pub record Passing (below excesses : List ℕ) (j k : ℕ) : Type 0 where
    pub left : j ≡ up_to ms k
    pub carried : Carried amounts ps excess k below
    pub places : length excesses ≡ 1024
    pub found : (v : ℕ) → k < v → v ≤ length ps → get_or excesses v 0 ≡ excess v

  pub passing_start : {j k : ℕ} → k ≡ length ps → j ≡ member_count n
      → Passing (replicate 1024 0) (replicate 1024 0) j k
  passing_start e l =
      rw (e, l)
      (record {
        left = refl;
        carried = carried_start amounts ps excess;
        places = length-replicate {A = ℕ} 1024 0;
        found = λ v lo hi. absurd (omega arith);
      })

  module _ (ok : Proposed ps cs ms shares) where
    is_excess : Excess n weight excess
    is_excess = excess_of_lem n ok.sound.rising weight

    -- what the children of a vertex exceed by is within the bound on all weights
    children_fit : (v : ℕ) → v ≤ length ps → children n excess v ≤ most_total
    children_fit v h =
        omega (
          arith,
          excess_le n ok.sound.rising weight excess is_excess v h,
          weights_bound ps cs ms shares ok,
        )

    module _ {k i : ℕ} (within : k ≤ length ps) (next : k ≡ suc i) {below excesses : List ℕ} {j : ℕ}
        (s : Passing below excesses j k) where
      here : Carried amounts ps excess (suc i) below
      here = subst (λ (u : ℕ). Carried amounts ps excess u below) next s.carried

      -- 1 where the arc's vertex is a member
      abbrev w : ℕ
      w = pick (eqb (get_or ms i 0) 1) 1

      numbered : j - w ≡ number n k
      numbered = ap (λ (x : ℕ). x - w) s.left ∙ up_to_number ms next refl

      module _ (mark : get_or ms i 0 ≡ 1) where
        is_member : eqb (get_or ms i 0) 1 ≡ true
        is_member = eq-eqb (get_or ms i 0) 1 mark

        one : w ≡ 1
        one = pick_yes 1 is_member

        pub passing_place : j - 1 < member_count n
        passing_place = omega (arith, numbered, one, number_lt n k (omega arith) (ap (marked ms) next ∙ is_member))

        pub met_member : {j' amount : ℕ} → j' ≡ j - 1 → amount ≡ get_or below (i + 1) 0 + plus (share shares (j - 1))
            → Met ms shares below i j j' amount
        met_member ej ea =
            record {
              number_is = rw one ej;
              amount_is = rw one (ea ∙ ap (λ (x : ℕ). get_or below (i + 1) 0 + x) (sym (pick_yes _ is_member)));
            }

      pub met_other : (get_or ms i 0 ≡ 1 → ⊥) → Met ms shares below i j j (get_or below (i + 1) 0)
      met_other mark =
          let no_member : eqb (get_or ms i 0) 1 ≡ false = ne_eqb (get_or ms i 0) 1 mark in
          record {
            number_is = omega (arith, pick_no 1 no_member);
            amount_is = omega (arith, pick_no (plus (share shares (j - w))) no_member);
          }

      module _ {j' amount : ℕ} (met : Met ms shares below i j j' amount) where
        amount_here : amount ≡ weight k + children n excess k
        amount_here =
            omega (
              arith,
              met.amount_is,
              ap₂ (λ (v u : ℕ). pick (marked ms v) (plus (share shares u))) (sym next) numbered,
              ap (λ (u : ℕ). get_or below u 0) (add-one i),
              carried_at amounts ps excess ok.sound i (omega arith) below here,
              ap (children n excess) next,
            )

        pub passing_fits : amount ≤ 4092000000000000
        passing_fits =
            omega (
              arith,
              amount_here,
              term_le (length ps) k weight (omega arith),
              children_fit k within,
              weights_bound ps cs ms shares ok,
            )

        pub passing_excess : {cost y : ℕ} → cost ≡ get_or cs i 0 → y ≡ amount - cost → y ≡ excess k
        passing_excess ec e =
            e ∙ ap₂ (λ (a b : ℕ). a - b) amount_here (ec ∙ ap (of_arc cs) (sym next)) ∙ sym (is_excess k (omega arith))

      module _ {y parent : ℕ} (found : y ≡ excess k) (up : parent ≡ get_or ps i 0) where
        pub passing_carry : get_or below parent 0 + y ≤ most_total
        passing_carry =
            rw up
            (omega (
              arith,
              here.lacks (get_or ps i 0) (omega (arith, ok.sound.rising i, ok.sound.few)),
              pick_yes (excess (suc i)) (eq-eqb (get_or ps i 0) (get_or ps i 0) refl),
              found,
              ap excess next,
              children_fit (get_or ps i 0) (omega (arith, ok.sound.rising i)),
            ))

        pub passing_on : {j' amount : ℕ} → Met ms shares below i j j' amount
            → Passing (set below parent (get_or below parent 0 + y)) (set excesses (i + 1) y) j' i
        passing_on met =
            rw (up, add-one i, ← next)
            (record {
              left = omega (arith, met.number_is, s.left, up_to_next ms next refl);
              carried =
                  carried_on amounts ps excess ok.sound i (omega arith) below here
                  (get_or below (get_or ps i 0) 0 + y)
                  (ap (λ (x : ℕ). get_or below (get_or ps i 0) 0 + x) (found ∙ ap excess next));
              places = length-set excesses k y ∙ s.places;
              found =
                  λ v lo hi. elim
                  (ℕ_discrete v k)
                  [ yes d ↦ at_next v d | no d ↦ get_or-set_other excesses k v y 0 d ∙ s.found v (omega arith) hi ];
            })
          where
            at_next : (v : ℕ) → v ≡ k → get_or (set excesses k y) v 0 ≡ excess v
            at_next v d =
                ap (λ (u : ℕ). get_or (set excesses k y) u 0) d
                ∙ get_or-set_same excesses k y 0 (omega (arith, s.places, ok.sound.few))
                ∙ found
                ∙ ap excess (sym d)

    pub passing_end : {below excesses : List ℕ} {j k : ℕ} → k ≡ 0 → Passing below excesses j k
        → Exceeding n shares (get_or below 0 0) excesses
    passing_end {below} {excesses} {j} {k} e s =
        record {
          excess =
              λ v i. same v i ∙ is_excess v i
              ∙ ap (λ (x : ℕ). (weight v + x) - of_arc cs v) (sym (same_children v));
          all =
              omega (
                arith,
                s.carried.lacks 0 (omega arith),
                ap (λ (u : ℕ). sum u (child amounts ps excess 0)) e,
                same_children 0,
              );
        }
      where
        same : (v : ℕ) → In (length ps) v → get_or excesses v 0 ≡ excess v
        same v i = s.found v (omega arith) i.high

        same_children : (v : ℕ) → children n (λ u. get_or excesses u 0) v ≡ children n excess v
        same_children v = sum_cong (length ps) (λ u i. ap (pick (eqb (of_arc ps u) v)) (same u i))
