-- The branch of an arc b as a network: its members are b's users, and its arcs are those at or below b.
--
--   branch_member, branch_count   its members, and how many there are
--   branch_ends, branch_branched  no member has a child; where b leaves the source, every member uses b
--   branch_used                   an arc that it uses is used in the tree
--   branch_cost, branch_need      what its arcs cost and need: what they do in the tree
use Prim.Native.Nat.{ℕ, zero, suc}
use mathlib.Core.Path.{◌≡◌, refl, sym, ap, ◌∙◌}
use mathlib.Core.Bool.{Bool, true, false, ◌&&◌, and-true, and-false}
use mathlib.Core.Logic.{⊎_elim}
use native.Mathlib.Decide.{dec_lt}
use native.Mathlib.Omega.{arith}
use lib.ListN.{length, get_or-eq_default}
use lib.Dec.{eqb}
use Rattle.basics.specs.Sum.{pick}
use Rattle.game.specs.Network.{Network, at_or_below, user, used, everyone, sum_below, need, member_count}
use Rattle.game.specs.Tree.{Tree, of_arc, network}
use Rattle.game.specs.Branch.{branch_marks, branch}
use Rattle.game.specs.ByArc.{user_count}
use Rattle.basics.proofs.Bools.{both, clash, not_so, same_test, and_both, and_first, and_second, pick_yes, pick_no}
use Rattle.basics.proofs.Bools.{pick_and, pick_swap}
use Rattle.basics.proofs.Sums.{In, sum_cong}
use Rattle.basics.proofs.Lists.{list_length}
use Rattle.game.proofs.ArcEntries.{of_list}
use Rattle.game.proofs.Below.{Rooted, below_self, below_trans, below_comparable}
use Rattle.game.proofs.Groups.{UsedBy, used_of, used_by}
use Rattle.game.proofs.Excess.{MembersEnd}
use Rattle.game.proofs.Counted.{counted_at}
use Rattle.game.proofs.UserSums.{users_count}
use Rattle.game.proofs.Bump.{below_same}
use Rattle.game.proofs.Branched.{Branched, above_leaving}

marked_if : (inside : Bool) (mark : ℕ) → eqb (pick inside mark) 1 ≡ (eqb mark 1 && inside)
marked_if true mark = sym (and-true (eqb mark 1))
marked_if false mark = sym (and-false (eqb mark 1))

module _ (t : Tree) (sized : length t.marks ≡ length t.parents) (b : ℕ) where
  abbrev whole : Network
  whole = network t

  abbrev part : Network
  part = network (branch t b)

  pub branch_member : (v : ℕ) → part.member v ≡ user whole b v
  unfolding branch_marks
  branch_member zero = refl
  branch_member (suc i) =
      elim (dec_lt i (length t.parents)) [
        | yes h ↦
            ap (λ (x : ℕ). eqb x 1)
            (of_list (length t.parents) (λ v. pick (at_or_below whole b v) (of_arc t.marks v)) (suc i) (omega arith))
            ∙ marked_if (at_or_below whole b (suc i)) (of_arc t.marks (suc i))
        | no h ↦
            ap (λ (x : ℕ). eqb x 1)
            (get_or-eq_default (branch_marks t b) 0 {n = i}
            (omega (
              arith,
              list_length (λ v. pick (at_or_below whole b v) (of_arc t.marks v)) (length t.parents),
            )))
            ∙ sym
            (ap (λ (x : ℕ). eqb x 1 && at_or_below whole b (suc i))
            (get_or-eq_default t.marks 0 {n = i} (omega (arith, sized))))
      ]

  pub branch_count : member_count part ≡ user_count whole b
  unfolding sum_below
  branch_count =
      sum_cong (length t.parents)
      (λ v i.
      ap (λ (m : Bool). pick m 1) (branch_member v)
      ∙ pick_and (whole.member v) (at_or_below whole b v) 1
      ∙ pick_swap (whole.member v) (at_or_below whole b v) 1)
      ∙ sym (users_count whole b)

  pub branch_ends : MembersEnd whole → MembersEnd part
  branch_ends ends v m = ends v (and_first (whole.member v) (at_or_below whole b v) (sym (branch_member v) ∙ m))

  pub branch_branched : In (length t.parents) b → whole.parent b ≡ 0 → Branched part b
  branch_branched i leaves =
      record {
        arc = i;
        leaves = leaves;
        all_use = λ v j m. and_second (whole.member v) (at_or_below whole b v) (sym (branch_member v) ∙ m);
      }

  -- an arc that the branch uses is used in the tree
  pub branch_used : (e : ℕ) → used part everyone e ≡ true → used whole everyone e ≡ true
  branch_used e u =
      let by = used_by part everyone e u in
      let v = by.by in
      used_of whole
      (record {
        by = v;
        within = by.within;
        chosen = refl;
        uses =
            and_both
            (and_first (whole.member v) (at_or_below whole b v)
            (sym (branch_member v) ∙ and_first (part.member v) (at_or_below whole e v) by.uses))
            (and_second (part.member v) (at_or_below whole e v) by.uses);
      })

  module _ (rooted : Rooted whole) where
    -- a user of an arc at or below b is a member of the branch
    used_in : (e : ℕ) → at_or_below whole b e ≡ true → used part everyone e ≡ used whole everyone e
    used_in e h =
        same_test (used part everyone e) (used whole everyone e) (branch_used e)
        (λ u.
        let by = used_by whole everyone e u in
        let v = by.by in
        let below = and_second (whole.member v) (at_or_below whole e v) by.uses in
        used_of part
        (record {
          by = v;
          within = by.within;
          chosen = refl;
          uses =
              and_both
              (branch_member v
              ∙ and_both (and_first (whole.member v) (at_or_below whole e v) by.uses)
              (below_trans whole rooted b e v h below))
              below;
        }))

    module _ (i : In (length t.parents) b) (leaves : whole.parent b ≡ 0) where
      -- an arc elsewhere has no user in the branch
      not_used : (e : ℕ) → In (length t.parents) e → at_or_below whole b e ≡ false → used part everyone e ≡ false
      not_used e j out = not_so (used part everyone e) (λ u. none (used_by part everyone e u))
        where
          none : UsedBy part everyone e → ⊥
          none by =
              let v = by.by in
              ⊎_elim
              (λ (h : at_or_below whole b e ≡ true). clash h out)
              (λ (h : at_or_below whole e b ≡ true).
              clash
              (ap (at_or_below whole b) (above_leaving whole rooted e b j i leaves h) ∙ below_self whole rooted b) out)
              (below_comparable whole rooted b e v
              (and_second (whole.member v) (at_or_below whole b v)
              (sym (branch_member v) ∙ and_first (part.member v) (at_or_below whole e v) by.uses))
              (and_second (part.member v) (at_or_below whole e v) by.uses))

      pub branch_cost : (e : ℕ) → In (length t.parents) e
          → part.cost e ≡ pick (at_or_below whole b e) (whole.cost e)
      branch_cost e j =
          ⊎_elim
          (λ (h : at_or_below whole b e ≡ true).
          counted_at (branch t b) e j
          ∙ ap (λ (u : Bool). pick u (of_arc t.costs e)) (used_in e h)
          ∙ sym (counted_at t e j)
          ∙ sym (pick_yes (whole.cost e) h))
          (λ (h : at_or_below whole b e ≡ false).
          counted_at (branch t b) e j
          ∙ pick_no (of_arc t.costs e) (not_used e j h)
          ∙ sym (pick_no (whole.cost e) h))
          (both (at_or_below whole b e))

      pub branch_need : (k : ℕ) → at_or_below whole b k ≡ true → need part k ≡ need whole k
      unfolding sum_below
      branch_need k h =
          below_same whole k {x = part.cost} {y = whole.cost}
          (λ v j below.
          branch_cost v j ∙ pick_yes (whole.cost v) (below_trans whole rooted b k v h below))
