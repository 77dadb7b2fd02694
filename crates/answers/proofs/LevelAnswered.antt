-- The level split's answer where the tree, the caps, the floors and the output list are accepted, each by itself: 27,
-- or what the arcs answer.
use Prim.Native.Nat.{ℕ}
use mathlib.Core.Path.{◌≡◌, ap, ◌∙◌}
use mathlib.Core.List.{List}
use Rattle.game.specs.Network.{member_count}
use Rattle.game.specs.Tree.{Tree, network}
use Rattle.answer_forms.specs.Answer.{Check, accepted, ◌then◌}
use Rattle.answer_forms.proofs.Composed.{first_accepted, second_accepted, then_nothing}
use Rattle.answers.specs.Checks.{tree_check, output_check}
use Rattle.answers.specs.Level.{caps_check, floors_check, split_from, level_or, level_check, level_answer}
use Rattle.answers.specs.LevelLaws.{lists_check}

module _ (t : Tree) (caps floors out : List ℕ) (ok : lists_check t caps floors out ≡ accepted) where
  abbrev members : ℕ
  members = member_count (network t)

  -- each list by itself
  pub tree_ok : tree_check t ≡ accepted
  tree_ok =
      first_accepted (tree_check t)
      (caps_check members caps then caps_check members floors then output_check members out) ok

  after_tree : (caps_check members caps then caps_check members floors then output_check members out) ≡ accepted
  after_tree =
      second_accepted (tree_check t)
      (caps_check members caps then caps_check members floors then output_check members out) ok

  pub caps_ok : caps_check members caps ≡ accepted
  caps_ok = first_accepted (caps_check members caps) (caps_check members floors then output_check members out) after_tree

  after_caps : (caps_check members floors then output_check members out) ≡ accepted
  after_caps =
      second_accepted (caps_check members caps) (caps_check members floors then output_check members out) after_tree

  floors_ok : caps_check members floors ≡ accepted
  floors_ok = first_accepted (caps_check members floors) (output_check members out) after_caps

  pub out_ok : output_check members out ≡ accepted
  out_ok = second_accepted (caps_check members floors) (output_check members out) after_caps

  -- what is left of the checks is 27
  checked : level_check t caps floors out ≡ floors_check members caps floors
  checked = rw (tree_ok, caps_ok, floors_ok) (then_nothing (floors_check members caps floors) out_ok)

  pub answered_by : {c : Check} → floors_check members caps floors ≡ c
      → level_answer t caps floors out ≡ level_or c (split_from (network t) caps floors (network t).arcs)
  unfolding level_answer
  answered_by e =
      ap (λ (c : Check). level_or c (split_from (network t) caps floors (network t).arcs)) (checked ∙ e)
