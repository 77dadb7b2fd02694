-- The level split's answer and list, by what its checks find.
use Prim.Native.Nat.{ℕ}
use mathlib.Core.Path.{◌≡◌, ap, ◌∙◌}
use mathlib.Core.List.{List}
use Rattle.game.specs.Network.{member_count}
use Rattle.game.specs.Tree.{Tree, network}
use Rattle.answer_forms.specs.Answer.{accepted, refused, ◌then◌}
use Rattle.answers.specs.Checks.{tree_check, output_check}
use Rattle.answers.specs.Level.{LevelAnswer, refusal, limits_check, split_from, level_or, list_after, level_shares}
use Rattle.answers.specs.Level.{level_answer, level_list}

module _ (t : Tree) (caps floors out : List ℕ) where
  -- the answer and the list are those that are defined
  abbrev pub Answered : LevelAnswer → List ℕ → Type 0
  Answered a after = (a ≡ level_answer t caps floors out) × (after ≡ level_list t caps floors out)

  pub tree_turned_down : {number place : ℕ} {a : LevelAnswer} → tree_check t ≡ refused number place
      → a ≡ refusal number place 0 → Answered a out
  unfolding level_answer level_list
  tree_turned_down e f = (rw (f, e), rw e)

  pub tree_taken : {a : LevelAnswer} {after : List ℕ} → tree_check t ≡ accepted
      → a ≡ level_or (limits_check (member_count (network t)) caps floors then output_check (member_count (network t)) out)
      (split_from (network t) caps floors (network t).arcs)
      → after ≡ list_after a out (level_shares (network t) caps floors)
      → Answered a after
  unfolding level_answer level_list
  tree_taken ok e l =
      let shares = level_shares (network t) caps floors in
      (rw ok e, rw ok (l ∙ ap (λ (x : LevelAnswer). list_after x out shares) e))
