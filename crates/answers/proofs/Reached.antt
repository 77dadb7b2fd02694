-- The tree that an event reaches from an accepted one: its check finds what the check of the outcome finds, and its
-- members are one more, one fewer or as many.
use Prim.Native.Nat.{ℕ, zero, suc, ◌+◌, ◌≤◌}
use mathlib.Core.Path.{◌≡◌, refl, sym, ap, ◌∙◌}
use mathlib.Core.Bool.{false, ◌||◌, ◌&&◌, not}
use mathlib.Core.List.{List}
use native.Mathlib.Decide.{ℕ_discrete}
use native.Mathlib.Omega.{arith}
use borrow.Author.Tests.{eq-eqb, eqb-false, le-ltb, ltb-false}
use lib.ListN.{length, length-set}
use lib.Seq.{get_or-set_same, get_or-set_other}
use lib.Dec.{eqb, ltb, leb}
use Rattle.basics.specs.Sum.{pick, some}
use Rattle.basics.proofs.Bools.{pick_no, neither_first, neither_second}
use Rattle.basics.proofs.Sums.{In, in_more, in_last, sum_but_one}
use Rattle.limits.specs.Limits.{most_cost}
use Rattle.game.specs.Network.{member_count}
use Rattle.game.specs.Tree.{Tree, tree_of, network, of_arc, has_child, marked}
use Rattle.answer_forms.specs.Answer.{Check, accepted, fault, ◌then◌}
use Rattle.answer_forms.proofs.Composed.{first_accepted, second_accepted, no_fault, then_nothing, then_same}
use Rattle.answers.specs.Checks.{arc_count_check, arc_check, mark_check, one_by_one, tree_check}
use Rattle.answers.specs.Laws.{ArcOf}
use Rattle.answers.specs.Events.{Change, arrive, leave, new_cost, Event, put_arc, marked_so}
use Rattle.answers.specs.Events.{vertex_check, outcome_check, fit_check}
use Rattle.answers.specs.EventLaws.{OutcomeLaws, OutcomeStatement}
use Rattle.answers.proofs.Accepted.{Accepted, tree_accepted, count_check_lem, each_arc, all_accepted}

-- the entries of a list in which one is put
pub put_length : (l : List ℕ) (v x : ℕ) → length (put_arc l v x) ≡ length l
put_length l zero x = refl
put_length l (suc i) x = length-set l i x

pub put_same : (l : List ℕ) (v x : ℕ) → In (length l) v → of_arc (put_arc l v x) v ≡ x
put_same l zero x i = absurd (omega arith)
put_same l (suc u) x i = get_or-set_same l u x 0 (omega arith)

put_other : (l : List ℕ) (v x k : ℕ) → (k ≡ v → ⊥) → of_arc (put_arc l v x) k ≡ of_arc l k
put_other l zero x k n = refl
put_other l (suc u) x zero n = refl
put_other l (suc u) x (suc w) n = get_or-set_other l u w x 0 (λ (e : w ≡ u). n (ap suc e))

-- a check arc by arc that finds nothing but at one arc
only_at : (check : ℕ → Check) (m v : ℕ) → In m v → ((k : ℕ) → In m k → (k ≡ v → ⊥) → check k ≡ accepted)
    → one_by_one check m ≡ check v
unfolding one_by_one
only_at check zero v i h = absurd (omega arith)
only_at check (suc m) v i h =
    elim (ℕ_discrete (suc m) v) [
      | yes e ↦ rw (all_accepted check m (λ k j. h k (in_more j) (λ (d : k ≡ v). absurd (omega arith)))) (ap check e)
      | no n ↦
          ap (λ (c : Check). c then check (suc m)) (only_at check m v (omega arith) (λ k j. h k (in_more j)))
          ∙ then_nothing (check v) (h (suc m) (in_last m) n)
    ]

abbrev nobody : Tree → Check
nobody t = fault (not (some (length t.parents) (marked t.marks))) 18 0

abbrev at_arc : Tree → ℕ → Check
at_arc t k = arc_check t.parents t.costs k then mark_check t.parents t.marks k

-- a tree that is checked with its fault at one arc alone
checked_at : (t : Tree) (v : ℕ) → arc_count_check t.parents ≡ accepted
    → length t.parents ≡ length t.costs
    → length t.parents ≡ length t.marks
    → In (length t.parents) v
    → ((k : ℕ) → In (length t.parents) k → (k ≡ v → ⊥) → at_arc t k ≡ accepted)
    → tree_check t ≡ (at_arc t v then nobody t)
unfolding tree_check
checked_at t v count costs marks i others =
    rw (
      count,
      eq-eqb (length t.parents) (length t.costs) costs,
      eq-eqb (length t.parents) (length t.marks) marks,
      only_at (at_arc t) (length t.parents) v i others,
    )

module _ (t : Tree) (ok : tree_check t ≡ accepted) (v : ℕ) (i : In (length t.parents) v) where
  abbrev ps : List ℕ
  ps = t.parents

  abbrev cs : List ℕ
  cs = t.costs

  abbrev ms : List ℕ
  ms = t.marks

  abbrev facts : Accepted t
  facts = tree_accepted t ok

  -- 3 and 4 find nothing at the vertex's arc, 16 and 17 nothing at the vertex
  arc_here : arc_check ps cs v ≡ accepted
  arc_here = first_accepted (arc_check ps cs v) (mark_check ps ms v) (each_arc t ok v i)

  mark_here : mark_check ps ms v ≡ accepted
  mark_here = second_accepted (arc_check ps cs v) (mark_check ps ms v) (each_arc t ok v i)

  parent_here : leb v (of_arc ps v) ≡ false
  parent_here =
      no_fault (leb v (of_arc ps v)) 3 v
      (first_accepted (fault (leb v (of_arc ps v)) 3 v) (fault (ltb most_cost (of_arc cs v)) 4 v) arc_here)

  cost_here : ltb most_cost (of_arc cs v) ≡ false
  cost_here =
      no_fault (ltb most_cost (of_arc cs v)) 4 v
      (second_accepted (fault (leb v (of_arc ps v)) 3 v) (fault (ltb most_cost (of_arc cs v)) 4 v) arc_here)

  pub mark_bound : of_arc ms v ≤ 1
  mark_bound =
      ltb-false 1 (of_arc ms v)
      (no_fault (ltb 1 (of_arc ms v)) 16 v
      (first_accepted (fault (ltb 1 (of_arc ms v)) 16 v) (fault (marked ms v && has_child ps v) 17 v) mark_here))

  end_here : (marked ms v && has_child ps v) ≡ false
  end_here =
      no_fault (marked ms v && has_child ps v) 17 v
      (second_accepted (fault (ltb 1 (of_arc ms v)) 16 v) (fault (marked ms v && has_child ps v) 17 v) mark_here)

  -- the tree as it is has no fault of an outcome
  pub outcome_accepted : outcome_check t v ≡ accepted
  unfolding outcome_check
  outcome_accepted = rw (end_here, facts.someone, cost_here)

  -- the tree with another mark at the vertex
  module _ (x : ℕ) (b : x ≤ 1) where
    abbrev remarked : Tree
    remarked = tree_of ps cs (put_arc ms v x)

    marks_alike : length ps ≡ length (put_arc ms v x)
    marks_alike = sym (put_length ms v x ∙ facts.one_a_vertex)

    put_mark : of_arc (put_arc ms v x) v ≡ x
    put_mark = put_same ms v x (omega (arith, facts.one_a_vertex))

    mark_check_lem : tree_check remarked ≡ outcome_check remarked v
    unfolding outcome_check
    mark_check_lem =
        checked_at remarked v (count_check_lem t ok) facts.same marks_alike i
        (λ k j n. rw (put_other ms v x k n) (each_arc t ok k j))
        ∙ rw (parent_here, cost_here, put_mark, le-ltb 1 x b) (
        then_same (fault (eqb x 1 && has_child ps v) 17 v) (λ _. sym (then_nothing (nobody remarked) refl)))

  -- the tree with another cost at the vertex's arc
  module _ (x : ℕ) where
    abbrev repriced : Tree
    repriced = tree_of ps (put_arc cs v x) ms

    cost_check : tree_check repriced ≡ outcome_check repriced v
    unfolding outcome_check
    cost_check =
        checked_at repriced v (count_check_lem t ok) (facts.same ∙ sym (put_length cs v x)) (sym facts.one_a_vertex) i
        (λ k j n. rw (put_other cs v x k n) (each_arc t ok k j))
        ∙ rw (parent_here, mark_here, end_here, facts.someone)
        (then_nothing (fault (ltb most_cost (of_arc (put_arc cs v x) v)) 4 v then accepted) refl
        ∙ then_nothing (fault (ltb most_cost (of_arc (put_arc cs v x) v)) 4 v) refl)

  -- the members of a tree with other marks, where they differ at the vertex alone
  members_but_one : (l : List ℕ) → ((k : ℕ) → (k ≡ v → ⊥) → of_arc l k ≡ of_arc ms k)
      → member_count (network (tree_of ps cs l)) + pick (marked ms v) 1
      ≡ member_count (network t) + pick (marked l v) 1
  members_but_one l same =
      sum_but_one (length ps) v (λ k. pick (marked ms k) 1) (λ k. pick (marked l k) 1) i
      (λ k j n. ap (λ (x : ℕ). pick (eqb x 1) 1) (sym (same k n)))

-- where 21 finds nothing, the vertex is one of the tree's
vertex_in : (m v : ℕ) → vertex_check m v ≡ accepted → In m v
vertex_in m v e =
    let none = no_fault (eqb v 0 || ltb m v) 21 v e in
    record {
      low = let n = eqb-false v 0 (neither_first (eqb v 0) (ltb m v) none) in omega arith;
      high = ltb-false m v (neither_second (eqb v 0) (ltb m v) none);
    }

-- where 22 finds nothing either, its mark is not the one that the event would set
module _ (t : Tree) (e : Event) (fits : fit_check t e ≡ accepted) where
  abbrev inside : Check
  inside = vertex_check (length t.parents) e.vertex

  abbrev unfit : Check
  unfit = fault (marked_so (of_arc t.marks e.vertex) e.change) 22 e.vertex

  pub fits_inside : vertex_check (length t.parents) e.vertex ≡ accepted
  fits_inside = first_accepted inside unfit fits

  pub fits_vertex : In (length t.parents) e.vertex
  fits_vertex = vertex_in (length t.parents) e.vertex fits_inside

  pub fits_mark : marked_so (of_arc t.marks e.vertex) e.change ≡ false
  fits_mark =
      no_fault (marked_so (of_arc t.marks e.vertex) e.change) 22 e.vertex (second_accepted inside unfit fits)

-- how many members a mark counts for
abbrev counts : ℕ → ℕ
counts mark = pick (eqb mark 1) 1

module _ (t : Tree) (ok : tree_check t ≡ accepted) (v : ℕ) (i : In (length t.parents) v) where
  remarked_members : (x : ℕ) → x ≤ 1
      → member_count (network (tree_of t.parents t.costs (put_arc t.marks v x))) + counts (of_arc t.marks v)
      ≡ member_count (network t) + counts x
  remarked_members x b =
      members_but_one t ok v i (put_arc t.marks v x) (put_other t.marks v x)
      ∙ ap (λ (y : ℕ). member_count (network t) + counts y) (put_mark t ok v i x b)

  here : ArcOf t v
  here = record { first = i.low; last = i.high }

  changed_laws : (c : Change) → marked_so (of_arc t.marks v) c ≡ false
      → OutcomeLaws t (record { vertex = v; change = c })
  changed_laws arrive free =
      record {
        vertex = here;
        check = mark_check_lem t ok v i 1 (omega arith);
        members = omega (arith, remarked_members 1 (omega arith), pick_no {b = eqb (of_arc t.marks v) 1} 1 free);
      }
  changed_laws leave taken =
      let is_one : of_arc t.marks v ≡ 1 =
      omega (arith, mark_bound t ok v i, eqb-false (of_arc t.marks v) 0 taken) in
      record {
        vertex = here;
        check = mark_check_lem t ok v i 0 (omega arith);
        members = omega (arith, remarked_members 0 (omega arith), ap counts is_one);
      }
  changed_laws (new_cost x) any = record { vertex = here; check = cost_check t ok v i x; members = refl }

pub outcome_laws : OutcomeStatement
outcome_laws t e ok fits = changed_laws t ok e.vertex (fits_vertex t e fits) e.change (fits_mark t e fits)
