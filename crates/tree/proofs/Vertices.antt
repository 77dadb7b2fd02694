-- The members' vertices as they are handed in, and the network whose members stand there.
use Prim.Native.Nat.{ℕ, zero, suc, pred, ◌≤◌}
use mathlib.Core.Path.{◌≡◌, refl, sym, ap, ◌∙◌, fun_ext}
use mathlib.Core.Bool.{Bool, true}
use mathlib.Core.List.{List, []}
use native.Mathlib.Decide.{dec_lt}
use native.Mathlib.Omega.{arith}
use borrow.Author.Tests.{eqb-true, eq-eqb}
use lib.ListN.{length, get_or, get_or-eq_default}
use lib.Dec.{eqb}
use Rattle.limits.specs.Limits.{most_arcs}
use Rattle.basics.specs.Sum.{count}
use Rattle.game.specs.Network.{member_count, members, members_to}
use Rattle.game.specs.Tree.{network_of, of_arc, has_child, marked}
use Rattle.basics.proofs.Bools.{clash, same_test}
use Rattle.basics.proofs.Sums.{In, count_le, some_of, some_is}
use Rattle.game.proofs.Numbering.{members_length, member_at, vertex_of}
use Rattle.game.proofs.Overpayment.{number_lt}
use Rattle.game.proofs.Excess.{MembersEnd}
use Rattle.tree.specs.Passes.{Sound, Marked, Listed, listed, network_at}
use Rattle.tree.proofs.CapPass.{member_count_lem}

module _ (ps vertices : List ℕ) (list : Listed ps vertices) where
  pub vertices_count : length vertices ≡ member_count (network_at ps [] vertices)
  vertices_count = member_count_lem (network_at ps [] vertices) list.are

  pub vertices_few : Sound ps → length vertices ≤ most_arcs
  vertices_few sound = omega (arith, vertices_count, count_le (length ps) (listed vertices), sound.few)

  -- no member has a child
  pub listed_end : (cs : List ℕ) → MembersEnd (network_at ps cs vertices)
  unfolding has_child
  listed_end cs v m = list.ends v m

module _ (ps ms : List ℕ) (marks : Marked ps ms) where
  pub marked_end : (cs : List ℕ) → MembersEnd (network_of ps cs ms)
  unfolding has_child
  marked_end cs v m = marks.ends v m

  -- a marked vertex is one of the arcs'
  marked_in : (v : ℕ) → marked ms v ≡ true → In (length ps) v
  marked_in zero m = absurd (clash m refl)
  marked_in (suc i) m =
      elim (dec_lt i (length ps)) [
        | yes h ↦ omega arith
        | no h ↦ absurd
            (clash m (ap (λ (x : ℕ). eqb x 1) (get_or-eq_default ms 0 {n = i} (omega (arith, marks.sized)))))
      ]

  -- the list of the marked vertices
  abbrev vertices : List ℕ
  vertices = members_to (marked ms) (length ps)

  listed_marked : (v : ℕ) → listed vertices v ≡ true → marked ms v ≡ true
  unfolding listed
  listed_marked v h =
      let s = some_is (length vertices) (λ i. eqb (of_arc vertices i) v) h in
      at s.which s.within (eqb-true (of_arc vertices s.which) v s.passes)
    where
      at : (i : ℕ) → In (length vertices) i → of_arc vertices i ≡ v → marked ms v ≡ true
      at zero i e = absurd (omega arith)
      at (suc j) i e =
          let u = vertex_of (marked ms) (length ps) j (omega (arith, members_length (marked ms) (length ps))) in
          let same : u.vertex ≡ v =
          sym (member_at (marked ms) (length ps) u.vertex u.within u.is_member)
          ∙ ap (λ (x : ℕ). get_or vertices x 0) u.numbered ∙ e in
          sym (ap (marked ms) same) ∙ u.is_member

  marked_listed : (v : ℕ) → marked ms v ≡ true → listed vertices v ≡ true
  unfolding listed
  marked_listed v m =
      let i = marked_in v m in
      let n = network_of ps [] ms in
      some_of (length vertices) (suc (count (pred v) (marked ms))) (λ u. eqb (of_arc vertices u) v)
      (omega (arith, number_lt n v i m, members_length (marked ms) (length ps)))
      (eq-eqb (get_or vertices (count (pred v) (marked ms)) 0) v (member_at (marked ms) (length ps) v i m))

  -- the network of the marks, by the list of its members
  pub by_vertices : (cs : List ℕ) → network_at ps cs vertices ≡ network_of ps cs ms
  by_vertices cs =
      ap
      (λ (m : ℕ → Bool). record { arcs = length ps; parent = of_arc ps; member = m; cost = of_arc cs })
      (fun_ext (λ v. same_test (listed vertices v) (marked ms v) (listed_marked v) (marked_listed v)))

  pub marked_listing : Listed ps vertices
  marked_listing =
      record {
        are = sym (ap members (by_vertices []));
        ends = λ v h. marks.ends v (listed_marked v h);
      }
