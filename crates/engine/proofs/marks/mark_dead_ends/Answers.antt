use mathlib.Core.Path.{sym, ◌≡◌, ap, ◌∙◌}
use mathlib.Core.List.{List}
use Prim.Native.Nat.{ℕ}
use lib.ListN.{length}
use Rattle.basics.specs.Sum.{count}
use Rattle.game.specs.Tree.{marked, dead_ends}
use Rattle.answer_forms.specs.Answer.{value, accepted}
use Rattle.answers.specs.Checks.{plain_check}
use Rattle.answers.specs.DeadEnds.{dead_ends_answer, dead_ends_list}
use Rattle.game.proofs.DeadEnds.{dead_ends_length}
use Rattle.answers.proofs.Accepted.{length_accepted}
use Rattle.answers.proofs.DeadEnds.{plain_few}
use Rattle.engine.proofs.marks.mark_dead_ends.Goals as goal

pub write_dead_ends-requires : goal.write_dead_ends-requires
write_dead_ends-requires c =
    let accepted_lists : plain_check c.args.parents.now c.args.costs.now ≡ accepted =
    sym c.in_ok-check_plain.ensures in
    let lists = accepted_lists in
    record {
      parents_len_bound = plain_few _ _ lists;
      out_len = length_accepted _ _ (sym c.in_ok-check_output.ensures);
    }

pub returns : goal.returns
unfolding dead_ends_answer dead_ends_list
returns c =
    let accepted_lists : plain_check c.args.parents.now c.args.costs.now ≡ accepted =
    sym c.in_ok-check_plain.ensures in
    let lists = accepted_lists in
    let out = sym c.in_ok-check_output.ensures in
    let ends = c.write_dead_ends.ensures in
    let parents = c.args.parents.now in record {
      result_value = rw (lists, out)
          (ap value
          (c.count_members.ensures ∙ ap (λ (l : List ℕ). count (length l) (marked l)) ends
          ∙ ap (λ (k : ℕ). count k (marked (dead_ends parents))) (dead_ends_length parents)));
      out_after = rw (lists, out) ends;
    }
