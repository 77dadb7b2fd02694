-- The branches' splits together are in the core: in each branch every arc's users have at least its need, and all of
-- them have exactly the need of the branch's arc.
use Prim.Native.Nat.{ℕ, ◌*◌, ◌≤◌, ◌<◌}
use mathlib.Core.Path.{◌≡◌, refl, sym, ap, ◌∙◌, subst}
use mathlib.Core.Bool.{Bool, true, false, cond, ◌&&◌}
use mathlib.Core.Logic.{⊎_elim}
use mathlib.Core.List.{List, map}
use native.Mathlib.Nat.{mul-one, mul-zero}
use native.Mathlib.Decide.{dec_lt, ℕ_discrete}
use native.Mathlib.Omega.{arith}
use borrow.Author.Tests.{eqb-true, eq-eqb, ne_eqb, ltb-true, ltb-false, le-ltb, le-leb}
use lib.ListN.{get_or, replicate, length-replicate, get_or-replicate}
use lib.IntN.{pos}
use lib.Dec.{eqb, ltb}
use Rattle.basics.specs.Sum.{pick, sum}
use Rattle.basics.proofs.Bools.{both, clash, not_so, and_both, and_first, and_second, pick_yes, pick_no, pick_same}
use Rattle.basics.proofs.Sums.{In, sum_cong, sum_at}
use Rattle.basics.proofs.Sizes.{size_le, size_times}
use Rattle.basics.proofs.Lists.{entries_at}
use Rattle.game.specs.Network.{Network, at_or_below, used, everyone, sum_below, need, whole_cost, number, members}
use Rattle.game.specs.Network.{member_count}
use Rattle.game.specs.Tree.{Tree, network}
use Rattle.game.specs.Core.{users}
use Rattle.game.specs.ByArc.{user_count}
use Rattle.game.specs.Margin.{widest, shares_at}
use Rattle.game.proofs.Below.{Rooted, below_self, below_trans, below_comparable, top_of, sum_from_source}
use Rattle.game.proofs.Numbering.{member_at}
use Rattle.game.proofs.Overpayment.{members_sum, number_lt}
use Rattle.game.proofs.NaturalShares.{natural_core}
use Rattle.game.proofs.Core.{users_by_vertex, need_to_core}
use Rattle.game.proofs.Bump.{below_same}
use Rattle.game.proofs.Unused.{unused_need}
use Rattle.game.proofs.ByArc.{used_count}
use Rattle.game.proofs.LevelList.{view, view_off}
use Rattle.game.proofs.LevelCosts.{needs_grow}
use Rattle.game.proofs.LevelBounds.{bound_above}
use Rattle.game.proofs.Branched.{Branched, above_leaving, all_below}
use Rattle.game.proofs.Margin.{margin_sum, margin_meets}
use Rattle.answer_forms.specs.Answer.{Check, accepted, written}
use Rattle.answers.specs.Checks.{tree_check}
use Rattle.answers.specs.Margin.{leaves_source, branch_at, margin_check, margin_list}
use Rattle.answers.specs.MarginLaws.{BranchLaws, branch_shares, together, TogetherStatement}
use Rattle.answers.proofs.Accepted.{tree_accepted}
use Rattle.answers.proofs.CoreLaws.{members_end}
use Rattle.answers.proofs.BranchLaws.{branch_laws, branch_rooted, branch_end, branch_free, branch_whole}

module _ (t : Tree) (ok : tree_check t ≡ accepted) where
  abbrev n : Network
  n = network t

  rooted : Rooted n
  rooted = (tree_accepted t ok).rooted

  -- one branch
  module _ (b : ℕ) (i : In n.arcs b) (leaves : n.parent b ≡ 0) where
    abbrev part : Network
    part = branch_at t b

    from_there : leaves_source t.parents b ≡ true
    from_there =
        and_both (le-leb 1 b i.low) (and_both (le-leb b n.arcs i.high) (eq-eqb (n.parent b) 0 leaves))

    laws : BranchLaws t b
    laws = branch_laws t b ok from_there

    whole : Branched part b
    whole = branch_whole t b ok from_there

    same_need : (k : ℕ) → In n.arcs k → at_or_below n b k ≡ true → need part k ≡ need n k
    same_need k j h = laws.needs_are k (record { first = j.low; last = j.high }) h

    -- no arc of the branch needs more than arc b
    most_need : (k : ℕ) → In n.arcs k → at_or_below n b k ≡ true → need n k ≤ need n b
    most_need k j h =
        bound_above n rooted (need n) (needs_grow n rooted (need n) (λ u l. refl)) b k i j h

    -- what shares have to do in the branch
    record Serves (l : List ℕ) : Type 0 where
      all : sum_below n (view part l) b ≡ need n b
      each : (k : ℕ) → In n.arcs k → at_or_below n b k ≡ true → need n k ≤ sum_below n (view part l) k

    -- the entry's shares
    entry_serves : 2 ≤ user_count n b → Serves (shares_at part (widest part b))
    unfolding sum_below
    entry_serves h =
        let two : 2 ≤ member_count part = omega (arith, laws.as_many) in
        let rooted' = branch_rooted t b ok in
        let ends = branch_end t b ok in
        let free = branch_free t b ok in
        let l = shares_at part (widest part b) in
        record {
          all =
              all_below part rooted' b whole (view part l) (view_off part l)
              ∙ margin_sum part rooted' ends free b whole two
              ∙ same_need b i (below_self n rooted b);
          each = λ k j below.
              omega (arith, same_need k j below, margin_meets part rooted' ends free b whole two k j);
        }

    -- everyone pays the need of arc b
    module _ (few : user_count n b < 2) where
      x : ℕ
      x = need n b

      alone : List ℕ
      alone = replicate (user_count n b) x

      alone_at : (v : ℕ) → In n.arcs v → view part alone v ≡ pick (part.member v) x
      unfolding alone
      alone_at v j =
          pick_same (part.member v)
          (λ m. get_or-replicate {A = ℕ} (user_count n b) (number part v) x 0
          (omega (arith, laws.as_many, number_lt part v j m)))

      -- so an arc's users have that as often as there are users
      alone_sum : (k : ℕ) → sum_below n (view part alone) k ≡ x * user_count part k
      unfolding sum_below
      alone_sum k =
          below_same n k (λ v j below. alone_at v j)
          ∙ sym (users_by_vertex part (λ j. x) k)
          ∙ size_times (member_count part) x (users part k)

      one_user : (k : ℕ) → user_count part k ≡ 1 → sum_below n (view part alone) k ≡ x
      one_user k e = alone_sum k ∙ ap (λ (c : ℕ). x * c) e ∙ mul-one x

      no_user : (k : ℕ) → user_count part k ≡ 0 → sum_below n (view part alone) k ≡ 0
      no_user k e = alone_sum k ∙ ap (λ (c : ℕ). x * c) e ∙ mul-zero x

      unneeded : (k : ℕ) → user_count part k ≡ 0 → need part k ≡ 0
      unneeded k e =
          unused_need part (branch_rooted t b ok) k
          (not_so (used part everyone k) (λ u. omega (arith, used_count part k u))) (branch_free t b ok)

      at_most_one : (k : ℕ) → user_count part k < 2
      at_most_one k = omega (arith, size_le (member_count part) (users part k), laws.as_many)

      alone_serves : Serves alone
      unfolding x
      alone_serves =
          record {
            all =
                elim (dec_lt 0 (user_count part b)) [
                  | yes h ↦ one_user b (omega (arith, at_most_one b))
                  | no h ↦
                      let none : user_count part b ≡ 0 = omega arith in
                      no_user b none ∙ sym (sym (same_need b i (below_self n rooted b)) ∙ unneeded b none)
                ];
            each = λ k j below.
                elim (dec_lt 0 (user_count part k)) [
                  | yes h ↦ omega (arith, one_user k (omega (arith, at_most_one k)), most_need k j below)
                  | no h ↦ omega (arith, same_need k j below, unneeded k (omega arith))
                ];
          }

    checked : 2 ≤ user_count n b → margin_check t b (replicate (user_count n b) 0) ≡ accepted
    checked h =
        rw (
          ok,
          from_there,
          le-ltb (user_count n b) 2 h,
          length-replicate {A = ℕ} (user_count n b) 0,
          eq-eqb (user_count n b) (user_count n b) refl,
        )

    abbrev shared : Bool → List ℕ
    shared single =
        cond single (replicate (user_count n b) (need n b)) (margin_list t b (replicate (user_count n b) 0))

    shares_serve : Serves (branch_shares t b)
    unfolding branch_shares margin_list alone x
    shares_serve =
        ⊎_elim
        (λ (e : ltb (user_count n b) 2 ≡ true).
        subst Serves (sym (ap shared e)) (alone_serves (ltb-true (user_count n b) 2 e)))
        (λ (e : ltb (user_count n b) 2 ≡ false).
        let h = ltb-false (user_count n b) 2 e in
        subst Serves
        (sym
        (ap shared e
        ∙ ap (λ (c : Check). written c (replicate (user_count n b) 0) (shares_at part (widest part b))) (checked h)))
        (entry_serves h))
        (both (ltb (user_count n b) 2))

    -- no other arc from the source is above a vertex of the branch
    only_there : (c v : ℕ) → In n.arcs c → n.parent c ≡ 0 → at_or_below n b v ≡ true → at_or_below n c v ≡ true → b ≡ c
    only_there c v j e hb hc =
        ⊎_elim
        (λ (h : at_or_below n b c ≡ true). above_leaving n rooted b c i j e h)
        (λ (h : at_or_below n c b ≡ true). sym (above_leaving n rooted c b j i leaves h))
        (below_comparable n rooted b c v hb hc)

    -- a member's share in the branch of arc c
    abbrev in_branch : ℕ → ℕ → ℕ
    in_branch v c = get_or (branch_shares t c) (number (branch_at t c) v) 0

    only_term : (v : ℕ) → at_or_below n b v ≡ true
        → sum n.arcs (λ c. pick (eqb (n.parent c) 0 && at_or_below n c v) (in_branch v c)) ≡ in_branch v b
    only_term v h =
        sum_cong n.arcs
        (λ c j.
        elim (ℕ_discrete b c) [
          | yes d ↦
              pick_yes (in_branch v c)
              (and_both (eq-eqb (n.parent c) 0 (sym (ap n.parent d) ∙ leaves))
              (sym (ap (λ (u : ℕ). at_or_below n u v) d) ∙ h))
              ∙ sym (pick_yes (in_branch v c) (eq-eqb b c d))
          | no d ↦
              pick_no (in_branch v c)
              (not_so (eqb (n.parent c) 0 && at_or_below n c v)
              (λ e.
              d
              (only_there c v j (eqb-true (n.parent c) 0 (and_first (eqb (n.parent c) 0) (at_or_below n c v) e)) h
              (and_second (eqb (n.parent c) 0) (at_or_below n c v) e))))
              ∙ sym (pick_no (in_branch v c) (ne_eqb b c d))
        ])
        ∙ sum_at n.arcs b (in_branch v) i

    together_at : (v : ℕ) → In n.arcs v → at_or_below n b v ≡ true
        → view n (together t) v ≡ view part (branch_shares t b) v
    unfolding together
    together_at v j h =
        ⊎_elim
        (λ (m : n.member v ≡ true).
        pick_yes (get_or (together t) (number n v) 0) m
        ∙ entries_at
        (λ k.
        sum n.arcs
        (λ c. pick (eqb (n.parent c) 0 && users n c k) (in_branch (get_or (members n) k 0) c)))
        0 (member_count n) (number n v) (number_lt n v j m)
        ∙ ap (λ (u : ℕ). sum n.arcs (λ c. pick (eqb (n.parent c) 0 && at_or_below n c u) (in_branch u c)))
        (member_at n.member n.arcs v j m)
        ∙ only_term v h
        ∙ sym (pick_yes (in_branch v b) (laws.members_are v ∙ and_both m h)))
        (λ (m : n.member v ≡ false).
        pick_no (get_or (together t) (number n v) 0) m
        ∙ sym
        (pick_no (in_branch v b)
        (laws.members_are v
        ∙ not_so (n.member v && at_or_below n b v) (λ e. clash (and_first (n.member v) (at_or_below n b v) e) m))))
        (both (n.member v))

    together_sum : (k : ℕ) → at_or_below n b k ≡ true
        → sum_below n (view n (together t)) k ≡ sum_below n (view part (branch_shares t b)) k
    together_sum k h =
        below_same n k (λ v j below. together_at v j (below_trans n rooted b k v h below))

    together_all : sum_below n (view n (together t)) b ≡ need n b
    together_all = together_sum b (below_self n rooted b) ∙ shares_serve.all

    together_each : (k : ℕ) → In n.arcs k → at_or_below n b k ≡ true → need n k ≤ sum_below n (view n (together t)) k
    together_each k j h = omega (arith, together_sum k h, shares_serve.each k j h)

  all_pay : sum n.arcs (view n (together t)) ≡ whole_cost n
  unfolding whole_cost
  all_pay =
      sum_from_source n rooted (view n (together t))
      ∙ sum_cong n.arcs
      (λ u i. pick_same (eqb (n.parent u) 0) (λ e. together_all u i (eqb-true (n.parent u) 0 e)))
      ∙ sym (sum_from_source n rooted n.cost)

  enough : (k : ℕ) → In n.arcs k → need n k ≤ sum_below n (view n (together t)) k
  enough k i = let p = top_of n rooted k i in together_each p.arc p.within p.leaves k i p.above

pub together_core : TogetherStatement
together_core t ok =
    let n = network t in
    let a = tree_accepted t ok in
    need_to_core n a.rooted (members_end t a) (map pos (together t))
    (natural_core n (together t)
    (members_sum n.arcs n.member (λ j. get_or (together t) j 0) ∙ all_pay t ok)
    (λ k i.
    omega (
      arith,
      users_by_vertex n (λ j. get_or (together t) j 0) k,
      enough t ok k (record { low = i.first; high = i.last }),
    )))
