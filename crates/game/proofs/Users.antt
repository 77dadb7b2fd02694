-- The users of an arc: the member itself, or, apart, the users of its child arcs.
use Prim.Native.Nat.{ℕ, ◌+◌}
use mathlib.Core.Path.{◌≡◌, sym, ap, ◌∙◌}
use mathlib.Core.Bool.{true, false, ◌&&◌}
use mathlib.Core.Logic.{⊎_elim}
use native.Mathlib.Nat.{zero-add}
use borrow.Author.Tests.{eqb-true, eq-eqb}
use lib.Dec.{eqb}
use Rattle.basics.specs.Sum.{pick, count, some}
use Rattle.game.specs.Network.{Network, at_or_below, user}
use Rattle.basics.proofs.Bools.{both, clash, not_so, and_both, and_first, and_second, same_test, pick_no, pick_zero}
use Rattle.basics.proofs.Bools.{pick_and}
use Rattle.basics.proofs.Sums.{In, Some, sum_cong, sum_zero, some_of}
use Rattle.game.proofs.Below.{Rooted, below_self, child_sum, below_children}
use Rattle.game.proofs.Groups.{below_child}

module _ (n : Network) (rooted : Rooted n) where
  -- a member is a user of an arc that no member stands at exactly when it is a user of one of the arc's child arcs,
  -- and of one only
  pub users_of_children : (k v : ℕ) → In n.arcs v → n.member k ≡ false
      → pick (user n k v) 1 ≡ count n.arcs (λ u. eqb (n.parent u) k && user n u v)
  unfolding child_sum
  users_of_children k v i m =
      ⊎_elim
      (λ (e : n.member v ≡ true).
      rw e
      (below_children n rooted k 1 v i.high
      ∙ ap (λ (x : ℕ). x + child_sum n rooted k 1 v)
      (pick_no 1 (not_so (eqb k v) (λ h. clash e (sym (ap n.member (eqb-true k v h)) ∙ m))))
      ∙ zero-add (child_sum n rooted k 1 v)
      ∙ sum_cong n.arcs (λ u j. sym (pick_and (eqb (n.parent u) k) (at_or_below n u v) 1))))
      (λ (e : n.member v ≡ false).
      rw e (sym (sum_zero n.arcs (λ u j. pick_and (eqb (n.parent u) k) false 1 ∙ pick_zero (eqb (n.parent u) k)))))
      (both (n.member v))

  -- where no vertex has k for its parent, k is the only vertex at or below k
  pub users_of_end : (k v : ℕ) → In n.arcs v → some n.arcs (λ u. eqb (n.parent u) k) ≡ false
      → n.member k ≡ true → user n k v ≡ eqb k v
  users_of_end k v i end m =
      same_test (user n k v) (eqb k v)
      (λ h.
      ⊎_elim
      (λ (e : k ≡ v). eq-eqb k v e)
      (λ (s : Some n.arcs (λ u. eqb (n.parent u) k && at_or_below n u v)).
      absurd
      (clash
      (some_of n.arcs s.which (λ u. eqb (n.parent u) k) s.within
      (and_first (eqb (n.parent s.which) k) (at_or_below n s.which v) s.passes))
      end))
      (below_child n rooted k v i.high (and_second (n.member v) (at_or_below n k v) h)))
      (λ h.
      let e = eqb-true k v h in
      and_both (sym (ap n.member e) ∙ m) (sym (ap (at_or_below n k) e) ∙ below_self n rooted k))
