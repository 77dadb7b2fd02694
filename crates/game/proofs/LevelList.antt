-- The level rule on lists in member order: the list that it gives, seen by vertex, is what the rule's theorem speaks
-- of.
use Prim.Native.Nat.{ℕ, zero, suc, pred, ◌+◌, ◌*◌, ◌≤◌, ◌<◌}
use mathlib.Core.Path.{◌≡◌, refl, sym, ap, ◌∙◌}
use mathlib.Core.Bool.{true, false}
use mathlib.Core.Logic.{⊎_elim}
use mathlib.Core.List.{List}
use native.Mathlib.Decide.{ℕ_discrete}
use native.Mathlib.Omega.{arith}
use borrow.Author.Tests.{eq-eqb, ne_eqb, ltb-true, lt-ltb}
use lib.ListN.{length, get_or, set, replicate, length-set, length-replicate}
use lib.Seq.{get_or-set_same, get_or-set_other}
use lib.Dec.{ltb}
use Rattle.basics.specs.Sum.{pick}
use Rattle.game.specs.Network.{Network, at_or_below, number, member_count, sum_below, members}
use Rattle.game.specs.Core.{users}
use Rattle.game.specs.Level.{may_take, first_least, with_one_more, unit, units, arcs_down, level}
use Rattle.basics.proofs.Bools.{both, clash, and_both, and_first, and_second, pick_yes, pick_no, pick_zero}
use Rattle.basics.proofs.Sums.{In, sum_cong}
use Rattle.game.proofs.Below.{Rooted}
use Rattle.game.proofs.Certificate.{OfMembers}
use Rattle.game.proofs.Numbering.{member_at, Vertex, vertex_of}
use Rattle.game.proofs.Encoding.{zeros}
use Rattle.game.proofs.Overpayment.{number_lt}
use Rattle.game.proofs.Bounds.{users_at}
use Rattle.game.proofs.Bump.{bump, squares, below_cong}
use Rattle.game.proofs.Smallest.{Least, first_least_lem}
use Rattle.game.proofs.Descent.{More}
use Rattle.game.proofs.LevelRule.{lower, Reached, start, finish, one_unit, some_free, Choice}

module _ (n : Network) where
  -- a list in member order, by vertex; 0 off the members
  abbrev pub view : List ℕ → ℕ → ℕ
  view l v = pick (n.member v) (get_or l (number n v) 0)

  pub view_off : (l : List ℕ) → OfMembers n (view l)
  view_off l v i m = pick_no (get_or l (number n v) 0) m

  pub view_zeros : (m v : ℕ) → view (replicate m 0) v ≡ 0
  view_zeros m v = ap (pick (n.member v)) (zeros m (number n v)) ∙ pick_zero (n.member v)

  -- members with one number are one
  one_number : (u v : ℕ) → In n.arcs u → In n.arcs v → n.member u ≡ true → n.member v ≡ true
      → number n u ≡ number n v → u ≡ v
  one_number u v i j a b e =
      sym (member_at n.member n.arcs u i a) ∙ ap (λ (k : ℕ). get_or (members n) k 0) e
      ∙ member_at n.member n.arcs v j b

  view_bump : (l : List ℕ) (v u : ℕ) → length l ≡ member_count n → In n.arcs v → n.member v ≡ true → In n.arcs u
      → bump (view l) v u ≡ view (set l (number n v) (get_or l (number n v) 0 + 1)) u
  view_bump l v u len i m j =
      ⊎_elim
      (λ (a : n.member u ≡ true). elim (ℕ_discrete u v) [ yes e ↦ at_it e | no e ↦ other a e ])
      (λ (a : n.member u ≡ false).
      omega (
        arith,
        view_off l u j a,
        view_off (set l (number n v) (get_or l (number n v) 0 + 1)) u j a,
        pick_no 1 (ne_eqb u v (λ e. clash m (sym (ap n.member e) ∙ a))),
      ))
      (both (n.member u))
    where
      at_it : u ≡ v → bump (view l) v u ≡ view (set l (number n v) (get_or l (number n v) 0 + 1)) u
      at_it e =
          rw e
          (omega (
            arith,
            pick_yes 1 (eq-eqb v v refl),
            pick_yes (get_or l (number n v) 0) m,
            pick_yes (get_or (set l (number n v) (get_or l (number n v) 0 + 1)) (number n v) 0) m,
            get_or-set_same l (number n v) (get_or l (number n v) 0 + 1) 0 (omega (arith, number_lt n v i m)),
          ))

      other : n.member u ≡ true → (u ≡ v → ⊥)
          → bump (view l) v u ≡ view (set l (number n v) (get_or l (number n v) 0 + 1)) u
      other a e =
          omega (
            arith,
            pick_no 1 (ne_eqb u v e),
            pick_yes (get_or l (number n u) 0) a,
            pick_yes (get_or (set l (number n v) (get_or l (number n v) 0 + 1)) (number n u) 0) a,
            get_or-set_other l (number n v) (number n u) (get_or l (number n v) 0 + 1) 0
                (λ d. e (one_number u v j i a m d)),
          )

module _ (n : Network) (cap amount : ℕ → ℕ) where
  -- lists that agree at every vertex
  reached_same : (k t : ℕ) (x y : ℕ → ℕ) → ((v : ℕ) → In n.arcs v → x v ≡ y v) → Reached n cap amount k t x
      → Reached n cap amount k t y
  reached_same k t x y same r =
      record {
        off = λ v i m. sym (same v i) ∙ r.off v i m;
        caps = λ v i. omega (arith, same v i, r.caps v i);
        kept = λ f lo hi. omega (arith, below f, r.kept f lo hi);
        given = λ v h. sym (below v) ∙ r.given v h;
        best = λ z a. omega (arith, r.best z a, squared);
      }
    where
      below : (f : ℕ) → sum_below n x f ≡ sum_below n y f
      below f = below_cong n x y f same

      squared : squares n.arcs x ≡ squares n.arcs y
      squared = sum_cong n.arcs (λ v i. ap (λ (z : ℕ). z * z) (same v i))

-- a list of the rule, after the arcs above k and t units of arc k
pub record Stands (n : Network) (caps : List ℕ) (amount : ℕ → ℕ) (k t : ℕ) (l : List ℕ) : Type 0 where
  pub sized : length l ≡ member_count n
  pub reached : Reached n (view n caps) amount k t (view n l)

module _ (n : Network) (rooted : Rooted n) (caps : List ℕ) (amount : ℕ → ℕ)
    (enough : (k : ℕ) → In n.arcs k → lower n amount k ≤ sum_below n (view n caps) k) where
  module _ (k t : ℕ) (i : In n.arcs k) (h : t < amount k) (l : List ℕ) (s : Stands n caps amount k t l) where
    -- a user below its cap may take a unit
    may : (v : ℕ) → In n.arcs v → n.member v ≡ true → at_or_below n k v ≡ true → view n l v < view n caps v
        → may_take n caps k l (number n v) ≡ true
    may v j m b lt =
        and_both (users_at n k v j m ∙ b)
        (lt-ltb (get_or l (number n v) 0) (get_or caps (number n v) 0)
        (omega (arith, pick_yes (get_or l (number n v) 0) m, pick_yes (get_or caps (number n v) 0) m)))

    free : More n rooted (view n l) (view n caps) k
    free = some_free n rooted (view n caps) amount (view_off n caps) enough k t (view n l) i h s.reached

    free_member : n.member free.at ≡ true
    free_member =
        ⊎_elim
        (λ (m : n.member free.at ≡ true). m)
        (λ (m : n.member free.at ≡ false). absurd
        (omega (arith, view_off n caps free.at free.within m, free.more)))
        (both (n.member free.at))

    chosen : ℕ
    chosen = first_least (may_take n caps k l) (λ j. get_or l j 0) (member_count n)

    best : Least (may_take n caps k l) (λ j. get_or l j 0) (member_count n) chosen
    unfolding chosen
    best = first_least_lem (may_take n caps k l) (λ j. get_or l j 0) (member_count n)

    not_none : chosen ≡ 0 → ⊥
    not_none =
        (best.is_least (number n free.at) (number_lt n free.at free.within free_member)
        (may free.at free.within free_member free.below free.more)).0

    one : (pred chosen < member_count n) × (may_take n caps k l (pred chosen) ≡ true)
    one = best.is_one not_none

    who : Vertex n.member n.arcs (pred chosen)
    who = vertex_of n.member n.arcs (pred chosen) one.0

    is_user : users n k (pred chosen) ≡ true
    is_user = and_first (users n k (pred chosen)) (ltb (get_or l (pred chosen) 0) (get_or caps (pred chosen) 0)) one.1

    seen : (m : List ℕ) → view n m who.vertex ≡ get_or m (pred chosen) 0
    seen m = pick_yes (get_or m (number n who.vertex) 0) who.is_member ∙ ap (λ (j : ℕ). get_or m j 0) who.numbered

    choice : Choice n rooted (view n caps) amount (view_off n caps) enough k t (view n l) i h s.reached who.vertex
    choice =
        record {
          within = who.within;
          is_member = who.is_member;
          below =
              sym (users_at n k who.vertex who.within who.is_member) ∙ ap (users n k) who.numbered
              ∙ is_user;
          room =
              omega (
                arith,
                seen l,
                seen caps,
                ltb-true (get_or l (pred chosen) 0) (get_or caps (pred chosen) 0)
                    (and_second (users n k (pred chosen)) (ltb (get_or l (pred chosen) 0) (get_or caps (pred chosen) 0))
                    one.1),
              );
          smallest = λ v j m b lt.
              omega (
                arith,
                seen l,
                pick_yes (get_or l (number n v) 0) m,
                (best.is_least (number n v) (number_lt n v j m) (may v j m b lt)).1,
              );
        }

    next : with_one_more l chosen ≡ set l (number n who.vertex) (get_or l (number n who.vertex) 0 + 1)
    next =
        let some : chosen ≡ suc (pred chosen) = omega (arith, not_none) in
        ap (with_one_more l) some ∙ ap (λ (j : ℕ). set l j (get_or l j 0 + 1)) (sym who.numbered)

    one_more : Stands n caps amount k (suc t) (unit n caps k l)
    unfolding chosen
    one_more =
        rw next
        (record {
          sized = length-set l (number n who.vertex) (get_or l (number n who.vertex) 0 + 1) ∙ s.sized;
          reached =
              reached_same n (view n caps) amount k (suc t) (bump (view n l) who.vertex)
              (view n (set l (number n who.vertex) (get_or l (number n who.vertex) 0 + 1)))
              (λ u j. view_bump n l who.vertex u s.sized who.within who.is_member j)
              (one_unit n rooted (view n caps) amount (view_off n caps) enough k t (view n l) i h s.reached
              who.vertex choice);
        })

  all_units : (k t : ℕ) (l : List ℕ) → In n.arcs k → t ≤ amount k → Stands n caps amount k 0 l
      → Stands n caps amount k t (units n caps k t l)
  unfolding units
  all_units k zero l i h s = s
  all_units k (suc t) l i h s = one_more k t i (omega arith) (units n caps k t l) (all_units k t l i (omega arith) s)

  -- one arc more is finished
  next_arc : (k : ℕ) (l : List ℕ) → suc k ≤ n.arcs → Stands n caps amount (suc k) 0 l
      → Stands n caps amount k 0 (units n caps (suc k) (amount (suc k)) l)
  next_arc k l h s =
      let done = all_units (suc k) (amount (suc k)) l (omega arith) (omega arith) s in
      record {
        sized = done.sized;
        reached = finish n rooted (view n caps) amount (view_off n caps) enough k
            (view n (units n caps (suc k) (amount (suc k)) l)) h done.reached;
      }

  all_arcs : (k : ℕ) (l : List ℕ) → k ≤ n.arcs → Stands n caps amount k 0 l
      → Stands n caps amount 0 0 (arcs_down n caps amount k l)
  unfolding arcs_down
  all_arcs zero l h s = s
  all_arcs (suc k) l h s = all_arcs k (units n caps (suc k) (amount (suc k)) l) (omega arith) (next_arc k l h s)

  -- before the first arc
  stands_start : Stands n caps amount n.arcs 0 (replicate (member_count n) 0)
  stands_start =
      record {
        sized = length-replicate {A = ℕ} (member_count n) 0;
        reached =
            reached_same n (view n caps) amount n.arcs 0 (λ v. 0) (view n (replicate (member_count n) 0))
            (λ v i. sym (view_zeros n (member_count n) v))
            (start n rooted (view n caps) amount (view_off n caps) enough);
      }

  pub level_stands : Stands n caps amount 0 0 (level n caps amount)
  level_stands = all_arcs n.arcs (replicate (member_count n) 0) (omega arith) stands_start
