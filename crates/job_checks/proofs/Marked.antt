-- The dead ends of a tree, marked in a local list.
use Prim.Native.Nat.{ℕ, ◌-◌, ◌≤◌}
use mathlib.Core.Path.{◌≡◌, sym, ap₂, ◌∙◌}
use mathlib.Core.List.{List, ◌++◌}
use native.Mathlib.Omega.{arith}
use borrow.Author.Tests.{eq-eqb}
use lib.ListN.{length, take, length-append}
use Rattle.game.specs.Tree.{Tree, dead_ends, dead_end_tree}
use Rattle.basics.proofs.Lists.{front_part}
use Rattle.answer_forms.specs.Answer.{Check, accepted, written, ◌then◌}
use Rattle.answer_forms.proofs.Composed.{first_accepted}
use Rattle.answers.specs.Checks.{arc_check, mark_check, tree_check, plain_check, output_check}
use Rattle.answers.specs.DeadEnds.{dead_ends_list}
use Rattle.answers.proofs.Accepted.{count_check_lem, each_arc, all_accepted, tree_accepted}
use Rattle.answers.proofs.DeadEnds.{plain_check_lem}

-- a tree that is accepted with some marks is accepted with its dead ends marked
pub dead_ends_too : (t : Tree) → tree_check t ≡ accepted → tree_check (dead_end_tree t.parents t.costs) ≡ accepted
unfolding plain_check
dead_ends_too t e =
    let ps = t.parents in
    let cs = t.costs in
    plain_check_lem ps cs
    ∙ rw (count_check_lem t e, eq-eqb (length ps) (length cs) (tree_accepted t e).same)
    (all_accepted (arc_check ps cs) (length ps)
    (λ k i. first_accepted (arc_check ps cs k) (mark_check ps t.marks k) (each_arc t e k i)))

-- a local list whose front holds the marks that were written for an accepted job: its dead ends
module _ (ps cs : List ℕ) (ok : tree_check (dead_end_tree ps cs) ≡ accepted) {ms : List ℕ} (out : List ℕ)
    (sized : length out ≡ length ps) (kept : length ms ≡ length out) (are : ms ≡ dead_ends_list ps cs out) where
  fits : output_check (length ps) out ≡ accepted
  fits = rw (eq-eqb (length out) (length ps) sized)

  marks_are : ms ≡ dead_ends ps
  unfolding dead_ends_list
  marks_are =
      are
      ∙ ap₂ (λ (c d : Check). written (c then d) out (dead_ends ps)) (sym (plain_check_lem ps cs) ∙ ok)
      fits

  pub marks_room : (rest : List ℕ) → length ps ≤ length (ms ++ rest)
  marks_room rest = omega (arith, sized, kept, length-append ms rest)

  pub marks_part : (rest : List ℕ) → take (length ps - 0) (ms ++ rest) ≡ dead_ends ps
  marks_part rest = front_part ms rest (length ps) (kept ∙ sized) ∙ marks_are
