-- Amounts that add up to the whole cost, and give the users of every arc that not all members use its need and d: every
-- proper nonempty group has what only it uses and d.
use Prim.Native.Nat.{ℕ, suc, ◌+◌, ◌≤◌, ◌<◌}
use mathlib.Core.Path.{◌≡◌, refl, sym, ap, ◌∙◌}
use mathlib.Core.Bool.{Bool, true, false, not, ◌&&◌}
use mathlib.Core.Logic.{⊎_elim}
use native.Mathlib.Decide.{dec_lt}
use native.Mathlib.Omega.{arith}
use borrow.Author.Tests.{eqb-true, eqb-false, lt-ltb}
use lib.Dec.{eqb}
use Rattle.basics.specs.Sum.{pick, sum}
use Rattle.game.specs.Network.{Network, at_or_below, used, everyone, sum_below, need, whole_cost, number}
use Rattle.game.specs.Network.{member_count}
use Rattle.game.specs.Group.{group_by_number}
use Rattle.game.specs.ByArc.{user_count}
use Rattle.game.specs.Margin.{own_cost, Proper}
use Rattle.basics.proofs.Bools.{both, clash, not_so, and_both, and_first, and_second, or_first, or_second, pick_yes}
use Rattle.basics.proofs.Bools.{pick_no, pick_le}
use Rattle.basics.proofs.Sums.{In, Some, sum_gap, sum_parts, term_le}
use Rattle.game.proofs.Below.{Rooted, from_source, below_self}
use Rattle.game.proofs.Groups.{UsedBy, used_of, used_by, used_child}
use Rattle.game.proofs.Users.{users_of_end}
use Rattle.game.proofs.Numbering.{Vertex, vertex_of}
use Rattle.game.proofs.Certificate.{top, OfMembers, parent_in}
use Rattle.game.proofs.Excess.{MembersEnd}
use Rattle.game.proofs.Counted.{UnusedFree}
use Rattle.game.proofs.Unused.{unused_need}
use Rattle.game.proofs.Overpayment.{group_sum}
use Rattle.game.proofs.Spare.{spare, spare_bound}
use Rattle.game.proofs.UserSums.{ones, users_count}
use Rattle.game.proofs.ByArc.{used_count}
use Rattle.game.proofs.Raised.{base}
use Rattle.game.proofs.OwnCost.{rest, own_and_rest}

-- an arc that some member does not use has fewer users than there are members
pub fewer_than_all : (n : Network) (k w : ℕ) → In n.arcs w → n.member w ≡ true → at_or_below n k w ≡ false
    → user_count n k < member_count n
unfolding sum_below
fewer_than_all n k w i m out =
    omega (
      arith,
      users_count n k,
      sum_gap n.arcs w (λ v. pick (at_or_below n k v) (ones n v)) (ones n)
          (λ v j. pick_le (at_or_below n k v) (ones n v)) i,
      pick_no (ones n w) out,
      pick_yes 1 m,
    )

module _ (n : Network) (rooted : Rooted n) where
  -- from an arc that a group does not use up to one that it could go on to
  module _ (s : ℕ → Bool) where
    abbrev could : ℕ → Bool
    could u = (top n (used n s) u && not (used n s u)) && used n everyone u

    found : (v : ℕ) → In n.arcs v → top n (used n s) v ≡ true → used n s v ≡ false → used n everyone v ≡ true
        → Some n.arcs could
    found v i t not_s all = record { which = v; within = i; passes = and_both (and_both t (ap not not_s)) all }

    first_unused : (v : ℕ) → In n.arcs v → used n s v ≡ false → used n everyone v ≡ true → Some n.arcs could
    first_unused =
        from_source n rooted
        (λ v. In n.arcs v → used n s v ≡ false → used n everyone v ≡ true → Some n.arcs could)
        (λ i not_s all. absurd (omega arith))
        (λ v ih i not_s all.
        let p = n.parent (suc v) in
        ⊎_elim
        (λ (e : eqb p 0 ≡ true). found (suc v) i (or_first (used n s p) e) not_s all)
        (λ (e : eqb p 0 ≡ false).
        ⊎_elim
        (λ (u : used n s p ≡ true). found (suc v) i (or_second (eqb p 0) u) not_s all)
        (λ (u : used n s p ≡ false).
        ih (parent_in n rooted (suc v) i (eqb-false p 0 e)) u (used_child n rooted everyone p (suc v) i refl all))
        (both (used n s p)))
        (both (eqb p 0)))

  module _ (ends : MembersEnd n) (free : UnusedFree n) (y : ℕ → ℕ) (of_members : OfMembers n y)
      (all : sum n.arcs y ≡ whole_cost n) (d : ℕ)
      (has : (k : ℕ) → In n.arcs k → 0 < user_count n k → base n d k ≤ sum_below n y k) where
    enough : (k : ℕ) → In n.arcs k → need n k ≤ sum_below n y k
    enough k i =
        elim (dec_lt 0 (user_count n k)) [
          | yes h ↦ omega (arith, has k i h)
          | no h ↦
              omega (
                arith,
                unused_need n rooted k (not_so (used n everyone k) (λ u. omega (arith, used_count n k u))) free,
              )
        ]

    module _ (g : ℕ → Bool) (proper : Proper n g) where
      s : ℕ → Bool
      s = group_by_number n (rest g)

      insider : Vertex n.member n.arcs proper.member
      insider = vertex_of n.member n.arcs proper.member proper.is_member

      outsider : Vertex n.member n.arcs proper.other
      outsider = vertex_of n.member n.arcs proper.other proper.is_other

      -- the only user of the insider's arc is in the group
      not_by_rest : used n s insider.vertex ≡ false
      unfolding s
      not_by_rest = not_so (used n s insider.vertex) (λ u. none (used_by n s insider.vertex u))
        where
          none : UsedBy n s insider.vertex → ⊥
          none b =
              let v = insider.vertex in
              let own = sym (users_of_end n rooted v b.by b.within (ends v insider.is_member)
              insider.is_member) ∙ b.uses in
              let same : v ≡ b.by = eqb-true v b.by own in
              clash b.chosen
              (ap (λ (w : ℕ). not (g (number n w))) (sym same)
              ∙ ap (λ (j : ℕ). not (g j)) insider.numbered ∙ ap not proper.inside)

      turn : Some n.arcs (could s)
      turn =
          first_unused s insider.vertex insider.within not_by_rest
          (used_of n
          (record {
            by = insider.vertex;
            within = insider.within;
            chosen = refl;
            uses = and_both insider.is_member (below_self n rooted insider.vertex);
          }))

      u : ℕ
      u = turn.which

      could_go : (top n (used n s) u && not (used n s u)) ≡ true
      unfolding u
      could_go = and_first (top n (used n s) u && not (used n s u)) (used n everyone u) turn.passes

      -- the outsider does not use that arc
      not_all : user_count n u < member_count n
      unfolding u s
      not_all =
          fewer_than_all n u outsider.vertex outsider.within outsider.is_member
          (not_so (at_or_below n u outsider.vertex)
          (λ b.
          clash
          (used_of n {g = s} {k = u}
          (record {
            by = outsider.vertex;
            within = outsider.within;
            chosen = ap (λ (j : ℕ). not (g j)) outsider.numbered ∙ ap not proper.outside;
            uses = and_both outsider.is_member b;
          }))
          (not_not (used n s u) (and_second (top n (used n s) u) (not (used n s u)) could_go))))
        where
          not_not : (b : Bool) → not b ≡ true → b ≡ false
          not_not true e = sym e
          not_not false e = refl

      spare_there : d ≤ spare n y u
      unfolding u
      spare_there =
          omega (
            arith,
            has u turn.within
                (used_count n u
                (and_second (top n (used n s) u && not (used n s u)) (used n everyone u) turn.passes)),
            pick_yes d (lt-ltb (user_count n u) (member_count n) not_all),
          )

      pub margin_kept : own_cost n g + d ≤ group_sum n y g
      unfolding u s
      margin_kept =
          omega (
            arith,
            spare_bound n rooted y of_members all enough s,
            term_le n.arcs u (λ v. pick (top n (used n s) v && not (used n s v)) (spare n y v)) turn.within,
            pick_yes (spare n y u) could_go,
            spare_there,
            own_and_rest n free g,
            sum_parts n.arcs (group_by_number n g) y,
            all,
          )
