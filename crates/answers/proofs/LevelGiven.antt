-- What follows where the level split's answer is a split.
use Prim.Native.Nat.{ℕ}
use mathlib.Core.Path.{◌≡◌, refl, sym, ap, ◌∙◌}
use mathlib.Core.List.{List}
use Rattle.game.specs.Network.{member_count}
use Rattle.game.specs.Tree.{Tree, network}
use Rattle.basics.proofs.Sums.{In}
use Rattle.answer_forms.specs.Answer.{Check, accepted, refused, ◌then◌}
use Rattle.answer_forms.proofs.Composed.{first_accepted}
use Rattle.answers.specs.Checks.{tree_check, output_check}
use Rattle.answers.specs.Level.{LevelAnswer, split, limits_check, split_from, level_or, level_shares, level_check}
use Rattle.answers.specs.Level.{level_answer, level_list, list_after}
use Rattle.answers.proofs.LevelStops.{not_both, Served, all_served}

split_accepted : (c : Check) (a : LevelAnswer) {members : ℕ} → level_or c a ≡ split members → c ≡ accepted
split_accepted accepted a e = refl
split_accepted (refused number place) a e = absurd (not_both (sym e))

module _ (t : Tree) (caps floors out : List ℕ)
    (given : level_answer t caps floors out ≡ split (member_count (network t))) where
  checked : level_check t caps floors out ≡ accepted
  unfolding level_answer
  checked =
      split_accepted (level_check t caps floors out) (split_from (network t) caps floors (network t).arcs) given

  pub given_tree : tree_check t ≡ accepted
  given_tree =
      first_accepted (tree_check t)
      (limits_check (member_count (network t)) caps floors then output_check (member_count (network t)) out) checked

  from_arcs : split_from (network t) caps floors (network t).arcs ≡ split (member_count (network t))
  unfolding level_answer
  from_arcs =
      sym (ap (λ (c : Check). level_or c (split_from (network t) caps floors (network t).arcs)) checked) ∙ given

  -- nothing stops the split at any arc
  pub given_served : (k : ℕ) → In (network t).arcs k → Served (network t) caps floors k
  given_served = all_served (network t) caps floors (network t).arcs from_arcs

  pub given_list : level_list t caps floors out ≡ level_shares (network t) caps floors
  unfolding level_list
  given_list = ap (λ (a : LevelAnswer). list_after a out (level_shares (network t) caps floors)) given
