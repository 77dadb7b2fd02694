-- The level split's list by keys.
use Prim.Native.Nat.{ℕ, ◌*◌, ◌≤◌, ◌<◌}
use mathlib.Core.Path.{◌≡◌, refl, ap, ◌∙◌}
use mathlib.Core.List.{List}
use native.Mathlib.Omega.{arith}
use borrow.Author.Tests.{ltb-false}
use lib.ListN.{get_or}
use Rattle.game.specs.Network.{member_count}
use Rattle.game.specs.Tree.{Tree, network}
use Rattle.game.specs.LevelKeys.{at_key}
use Rattle.game.specs.Floors.{adjusted}
use Rattle.basics.proofs.Sums.{count_le}
use Rattle.game.proofs.LevelByKeys.{level_by_keys}
use Rattle.game.proofs.Adjusted.{adjusted_grows}
use Rattle.game.proofs.HeldBounds.{held_enough}
use Rattle.answer_forms.specs.Answer.{Check, accepted, ◌then◌}
use Rattle.answer_forms.proofs.Composed.{first_accepted, second_accepted}
use Rattle.limits.specs.Limits.{most_share}
use Rattle.answers.specs.Checks.{tree_check, output_check}
use Rattle.answers.specs.Level.{split, outside_cap, caps_check, floors_check, limits_check, level_check}
use Rattle.answers.specs.Level.{level_answer, level_list}
use Rattle.answers.specs.LevelKeys.{member_key, LevelKeysStatement}
use Rattle.answers.proofs.Accepted.{tree_accepted}
use Rattle.answers.proofs.CoreLaws.{members_end}
use Rattle.answers.proofs.InRange.{list_accepted}
use Rattle.answers.proofs.LevelGiven.{given_tree, given_served, given_list}

module _ (t : Tree) (caps floors out : List ℕ) (ok : level_check t caps floors out ≡ accepted)
    (given : level_answer t caps floors out ≡ split (member_count (network t))) where
  abbrev limits : Check
  limits = limits_check (member_count (network t)) caps floors

  abbrev output : Check
  output = output_check (member_count (network t)) out

  caps_ok : caps_check (member_count (network t)) caps ≡ accepted
  caps_ok =
      first_accepted (caps_check (member_count (network t)) caps)
      (caps_check (member_count (network t)) floors then floors_check (member_count (network t)) caps floors)
      (first_accepted limits output (second_accepted (tree_check t) (limits then output) ok))

  limited : (j : ℕ) → get_or caps j 0 ≤ most_share
  limited j = ltb-false most_share (get_or caps j 0) ((list_accepted outside_cap 0 _ caps refl caps_ok).inside j)

  level_key : (j : ℕ) → j < member_count (network t)
      → get_or (level_list t caps floors out) j 0 ≡ at_key caps (member_key t caps floors j) j
  level_key j h =
      let n = network t in
      let tree = tree_accepted t (given_tree t caps floors out given) in
      ap (λ (l : List ℕ). get_or l j 0) (given_list t caps floors out given)
      ∙ level_by_keys n tree.rooted caps (adjusted n floors)
      (omega (arith, count_le n.arcs n.member, tree.few))
      (adjusted_grows n tree.rooted (members_end t tree) floors) (most_share * 1024)
      (held_enough n caps most_share limited tree.rooted (adjusted n floors)
      (λ k i. (given_served t caps floors out given k i).covered)) j h

pub level_keys : LevelKeysStatement
level_keys t caps floors out ok given = level_key t caps floors out ok given
