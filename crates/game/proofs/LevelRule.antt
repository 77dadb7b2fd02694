-- The level rule keeps the caps, gives every arc's users what the arcs at or below it give out, and has the least sum
-- of squares. `Reached k t x`: x are the shares after the arcs above k and t units of arc k.
--
--   start, one_unit, finish       the beginning, one unit more, the next arc
--   some_free                     a user below its cap for the next unit
--   reached_total                 what the shares add up to at the end
use Prim.Native.Nat.{ℕ, suc, ◌+◌, ◌*◌, ◌≤◌, ◌<◌}
use mathlib.Core.Path.{◌≡◌, refl, sym, ap, ap₂, ◌∙◌, subst}
use mathlib.Core.Bool.{Bool, true, false}
use mathlib.Core.Logic.{⊎_elim}
use native.Mathlib.Nat.{add-zero}
use native.Mathlib.Decide.{dec_lt, ℕ_discrete}
use native.Mathlib.Omega.{arith}
use borrow.Author.Tests.{eqb-true, eq-eqb, ne_eqb, lt-ltb, le-ltb}
use lib.Dec.{eqb, ltb}
use Rattle.basics.specs.Sum.{pick, sum}
use Rattle.game.specs.Network.{Network, at_or_below, sum_below}
use Rattle.basics.proofs.Bools.{both, clash, not_so, same_test, pick_yes, pick_no, pick_zero}
use Rattle.basics.proofs.Sums.{In, sum_cong, sum_add, sum_zero, sum_at}
use Rattle.game.proofs.Below.{Rooted, below_self, below_trans, below_le, below_comparable, all_below_source}
use Rattle.game.proofs.Certificate.{OfMembers}
use Rattle.game.proofs.Bump.{bump, squares, below_bump, squares_bump, below_cong, squares_cong, less_one}
use Rattle.game.proofs.Bump.{bump_less, less_at}
use Rattle.game.proofs.Descent.{More, has_more}

module _ (n : Network) (amount : ℕ → ℕ) where
  -- what the arcs at or below k give out
  abbrev pub lower : ℕ → ℕ
  lower k = sum_below n amount k

  -- what the arcs numbered above k give out at or below v
  pub after : ℕ → ℕ → ℕ
  after k v = sum n.arcs (λ f. pick (ltb k f) (pick (at_or_below n v f) (amount f)))

module _ (n : Network) (cap amount : ℕ → ℕ) where
  -- a list that keeps the caps, has what the arcs above k give out below them, and t units of arc k
  pub record Admits (k t : ℕ) (y : ℕ → ℕ) : Type 0 where
    pub off : OfMembers n y
    pub caps : (v : ℕ) → In n.arcs v → y v ≤ cap v
    pub kept : (f : ℕ) → k < f → f ≤ n.arcs → lower n amount f ≤ sum_below n y f
    pub enough : In n.arcs k → lower n amount k + t ≤ sum_below n y k + amount k

  -- the rule's list after the arcs above k and t units of arc k
  pub record Reached (k t : ℕ) (x : ℕ → ℕ) : Type 0 where
    pub off : OfMembers n x
    pub caps : (v : ℕ) → In n.arcs v → x v ≤ cap v
    pub kept : (f : ℕ) → k < f → f ≤ n.arcs → lower n amount f ≤ sum_below n x f
    pub given : (v : ℕ) → v ≤ k → sum_below n x v ≡ after n amount k v + pick (at_or_below n v k) t
    pub best : (y : ℕ → ℕ) → Admits k t y → squares n.arcs x ≤ squares n.arcs y

module _ (n : Network) (rooted : Rooted n) (cap amount : ℕ → ℕ) (cap_off : OfMembers n cap)
    (caps_enough : (k : ℕ) → In n.arcs k → lower n amount k ≤ sum_below n cap k) where
  -- before the first arc
  pub start : Reached n cap amount n.arcs 0 (λ v. 0)
  unfolding after sum_below
  start =
      record {
        off = λ v i m. refl;
        caps = λ v i. omega arith;
        kept = λ f lo hi. absurd (omega arith);
        given = λ v h.
            omega (
              arith,
              sum_zero n.arcs {f = λ u. pick (at_or_below n v u) 0} (λ u i. pick_zero (at_or_below n v u)),
              sum_zero n.arcs {f = λ f. pick (ltb n.arcs f) (pick (at_or_below n v f) (amount f))}
                  (λ f i. pick_no (pick (at_or_below n v f) (amount f)) (le-ltb n.arcs f i.high)),
              pick_zero (at_or_below n v n.arcs),
            );
        best = λ y a. omega (arith, sum_zero n.arcs {f = λ v. 0 * 0} (λ v i. refl));
      }

  -- what arc k and those after it give out below it
  lower_after : (k : ℕ) → In n.arcs k → lower n amount k ≡ amount k + after n amount k k
  unfolding after sum_below
  lower_after k i =
      sum_cong n.arcs (λ f j. parts f)
      ∙ sum_add n.arcs (λ f. pick (eqb k f) (amount f)) (λ f. pick (ltb k f) (pick (at_or_below n k f) (amount f)))
      ∙ ap (λ (a : ℕ). a + sum n.arcs (λ f. pick (ltb k f) (pick (at_or_below n k f) (amount f))))
      (sum_at n.arcs k amount i)
    where
      parts : (f : ℕ)
          → pick (at_or_below n k f) (amount f)
          ≡ pick (eqb k f) (amount f) + pick (ltb k f) (pick (at_or_below n k f) (amount f))
      parts f =
          elim (dec_lt k f) [
            | yes l ↦ omega (
              arith,
              pick_no (amount f) (ne_eqb k f (λ e. omega arith)),
              pick_yes (pick (at_or_below n k f) (amount f)) (lt-ltb k f l),
            )
            | no l ↦ elim (ℕ_discrete k f) [
              | yes e ↦
                  omega (
                    arith,
                    pick_yes (amount f) (eq-eqb k f e),
                    pick_yes (amount f) (subst (λ (u : ℕ). at_or_below n k u ≡ true) e (below_self n rooted k)),
                    pick_no (pick (at_or_below n k f) (amount f)) (le-ltb k f (omega arith)),
                  )
              | no e ↦
                  omega (
                    arith,
                    pick_no (amount f) (ne_eqb k f e),
                    pick_no (amount f) (not_so (at_or_below n k f) (λ b. omega (arith, below_le n rooted k f b))),
                    pick_no (pick (at_or_below n k f) (amount f)) (le-ltb k f (omega arith)),
                  )
            ]
          ]

  -- one arc more is finished
  after_next : (k v : ℕ) → suc k ≤ n.arcs
      → after n amount k v ≡ after n amount (suc k) v + pick (at_or_below n v (suc k)) (amount (suc k))
  unfolding after
  after_next k v h =
      sum_cong n.arcs (λ f j. parts f (pick (at_or_below n v f) (amount f)))
      ∙ sum_add n.arcs (λ f. pick (ltb (suc k) f) (pick (at_or_below n v f) (amount f)))
      (λ f. pick (eqb (suc k) f) (pick (at_or_below n v f) (amount f)))
      ∙ ap (λ (a : ℕ). sum n.arcs (λ f. pick (ltb (suc k) f) (pick (at_or_below n v f) (amount f))) + a)
      (sum_at n.arcs (suc k) (λ f. pick (at_or_below n v f) (amount f)) (omega arith))
    where
      parts : (f z : ℕ) → pick (ltb k f) z ≡ pick (ltb (suc k) f) z + pick (eqb (suc k) f) z
      parts f z =
          elim (dec_lt (suc k) f) [
            | yes l ↦ omega (
              arith,
              pick_yes z (lt-ltb (suc k) f l),
              pick_yes z (lt-ltb k f (omega arith)),
              pick_no z (ne_eqb (suc k) f (λ e. omega arith)),
            )
            | no l ↦ elim (ℕ_discrete (suc k) f) [
              | yes e ↦ omega (
                arith,
                pick_no z (le-ltb (suc k) f (omega arith)),
                pick_yes z (lt-ltb k f (omega arith)),
                pick_yes z (eq-eqb (suc k) f e),
              )
              | no e ↦ omega (
                arith,
                pick_no z (le-ltb (suc k) f (omega arith)),
                pick_no z (le-ltb k f (omega arith)),
                pick_no z (ne_eqb (suc k) f e),
              )
            ]
          ]

  pub finish : (k : ℕ) (x : ℕ → ℕ) → suc k ≤ n.arcs → Reached n cap amount (suc k) (amount (suc k)) x
      → Reached n cap amount k 0 x
  finish k x h r =
      record {
        off = r.off;
        caps = r.caps;
        kept =
            λ f lo hi. elim
            (ℕ_discrete f (suc k)) [
              | yes e ↦ subst (λ (u : ℕ). lower n amount u ≤ sum_below n x u) (sym e) done
              | no e ↦ r.kept f (omega arith) hi
            ];
        given = λ v l. omega (arith, r.given v (omega arith), after_next k v h, pick_zero (at_or_below n v k));
        best = λ y a.
            r.best y
            (record {
              off = a.off;
              caps = a.caps;
              kept = λ f lo hi. a.kept f (omega arith) hi;
              enough = λ i. omega (arith, a.kept (suc k) (omega arith) h);
            });
      }
    where
      done : lower n amount (suc k) ≤ sum_below n x (suc k)
      done =
          omega (
            arith,
            r.given (suc k) (omega arith),
            lower_after (suc k) (omega arith),
            pick_yes (amount (suc k)) (below_self n rooted (suc k)),
          )

  -- what the arc's users have so far
  so_far : (k t : ℕ) (x : ℕ → ℕ) → In n.arcs k → Reached n cap amount k t x
      → sum_below n x k + amount k ≡ lower n amount k + t
  so_far k t x i r = omega (arith, r.given k (omega arith), lower_after k i, pick_yes t (below_self n rooted k))

  -- at a turn of the rule
  module _ (k t : ℕ) (x : ℕ → ℕ) (i : In n.arcs k) (h : t < amount k) (r : Reached n cap amount k t x) where
    -- some user is below its cap
    pub some_free : More n rooted x cap k
    some_free = has_more n rooted x cap k i (omega (arith, so_far k t x i r, caps_enough k i))

    -- a user below its cap whose share is the smallest of such
    pub record Choice (c : ℕ) : Type 0 where
      pub within : In n.arcs c
      pub is_member : n.member c ≡ true
      pub below : at_or_below n k c ≡ true
      pub room : x c < cap c
      pub smallest : (v : ℕ) → In n.arcs v → n.member v ≡ true → at_or_below n k v ≡ true → x v < cap v → x c ≤ x v

    module _ (c : ℕ) (choice : Choice c) where
      -- an arc up to k is above the one who takes the unit exactly when it is above k
      same_above : (v : ℕ) → v ≤ k → at_or_below n v c ≡ at_or_below n v k
      same_above v l =
          same_test (at_or_below n v c) (at_or_below n v k)
          (λ b.
          ⊎_elim
          (λ (e : at_or_below n v k ≡ true). e)
          (λ (e : at_or_below n k v ≡ true).
          let same : k ≡ v = omega (arith, below_le n rooted k v e) in
          subst (λ (u : ℕ). at_or_below n v u ≡ true) (sym same) (below_self n rooted v))
          (below_comparable n rooted v k c b choice.below))
          (λ b. below_trans n rooted v k c b choice.below)

      off_on : OfMembers n (bump x c)
      off_on v j m =
          omega
          (arith, r.off v j m, pick_no 1 (ne_eqb v c (λ e. clash choice.is_member (sym (ap n.member e) ∙ m))))

      caps_on : (v : ℕ) → In n.arcs v → bump x c v ≤ cap v
      caps_on v j =
          ⊎_elim
          (λ (e : eqb v c ≡ true). let d = eqb-true v c e in
          omega (arith, pick_yes 1 e, choice.room, ap x d, ap cap d))
          (λ (e : eqb v c ≡ false). omega (arith, pick_no 1 e, r.caps v j))
          (both (eqb v c))

      best_on : (y : ℕ → ℕ) → Admits n cap amount k (suc t) y → squares n.arcs (bump x c) ≤ squares n.arcs y
      best_on y a =
          omega (
            arith,
            squares_bump n.arcs x c choice.within,
            r.best (less_one y j) admits,
            squares_cong n.arcs (bump (less_one y j) j) y (bump_less y j some),
            squares_bump n.arcs (less_one y j) j m.within,
            less_at y j,
            m.more,
            choice.smallest j m.within j_member m.below (omega (arith, m.more, a.caps j m.within)),
          )
        where
          -- someone has more in y, with more in y below every arc on the way there
          m : More n rooted x y k
          m = has_more n rooted x y k i (omega (arith, so_far k t x i r, a.enough i))

          j : ℕ
          j = m.at

          j_member : n.member j ≡ true
          j_member =
              ⊎_elim (λ (e : n.member j ≡ true). e)
              (λ (e : n.member j ≡ false). absurd (omega (arith, a.off j m.within e, m.more)))
              (both (n.member j))

          some : 0 < y j
          some = omega (arith, m.more)

          less : (f : ℕ) → sum_below n y f ≡ sum_below n (less_one y j) f + pick (at_or_below n f j) 1
          less f =
              sym (below_cong n (bump (less_one y j) j) y f (λ v l. bump_less y j some v))
              ∙ below_bump n (less_one y j) j f m.within

          kept_below : (f : ℕ) → k < f → f ≤ n.arcs → at_or_below n f j ≡ true
              → lower n amount f ≤ sum_below n (less_one y j) f
          kept_below f lo hi b =
              omega (
                arith,
                less f,
                pick_yes 1 b,
                r.kept f lo hi,
                m.on_the_way f (omega arith)
                    (⊎_elim
                    (λ (e : at_or_below n f k ≡ true). absurd (omega (arith, below_le n rooted f k e)))
                    (λ (e : at_or_below n k f ≡ true). e)
                    (below_comparable n rooted f k j b m.below))
                    b,
              )

          admits : Admits n cap amount k t (less_one y j)
          admits =
              record {
                off = λ v l e. omega (arith, a.off v l e);
                caps = λ v l. omega (arith, a.caps v l);
                kept = λ f lo hi.
                    ⊎_elim
                    (λ (b : at_or_below n f j ≡ true). kept_below f lo hi b)
                    (λ (b : at_or_below n f j ≡ false). omega (arith, less f, pick_no 1 b, a.kept f lo hi))
                    (both (at_or_below n f j));
                enough = λ l. omega (arith, a.enough l, less k, pick_yes 1 m.below);
              }

      pub one_unit : Reached n cap amount k (suc t) (bump x c)
      one_unit =
          record {
            off = off_on;
            caps = caps_on;
            kept = λ f lo hi. omega (arith, r.kept f lo hi, below_bump n x c f choice.within);
            given =
                λ v l. omega (
                  arith,
                  r.given v l,
                  below_bump n x c v choice.within,
                  ap (λ (b : Bool). pick b 1) (same_above v l),
                  more_units (at_or_below n v k),
                );
            best = best_on;
          }
        where
          more_units : (b : Bool) → pick b (suc t) ≡ pick b t + pick b 1
          more_units true = omega arith
          more_units false = refl

  -- the finished list adds up to all amounts
  pub reached_total : (x : ℕ → ℕ) → Reached n cap amount 0 0 x → sum n.arcs x ≡ sum n.arcs amount
  unfolding after sum_below
  reached_total x r =
      sum_cong n.arcs (λ v i. sym (pick_yes (x v) (all_below_source n rooted v)))
      ∙ r.given 0 (omega arith)
      ∙ ap₂ (λ (a b : ℕ). a + b)
      (sum_cong n.arcs
      (λ f i. pick_yes (pick (at_or_below n 0 f) (amount f)) (lt-ltb 0 f i.low)
      ∙ pick_yes (amount f) (all_below_source n rooted f)))
      (pick_zero (at_or_below n 0 0))
      ∙ add-zero (sum n.arcs amount)
