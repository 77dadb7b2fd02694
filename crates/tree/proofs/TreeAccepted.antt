-- What the passes ask of the lists of an accepted tree, and of its counted costs in a local list.
use Prim.Native.Nat.{ℕ, ◌-◌}
use mathlib.Core.Path.{◌≡◌, sym}
use mathlib.Core.List.{List, ◌++◌}
use lib.ListN.{length, take, replicate}
use Rattle.limits.specs.Limits.{most_arcs}
use Rattle.basics.specs.Sum.{count}
use Rattle.game.specs.Network.{member_count}
use Rattle.game.specs.Tree.{Tree, marked, counted_costs, network}
use Rattle.answer_forms.specs.Answer.{accepted}
use Rattle.answers.specs.Checks.{tree_check}
use Rattle.answers.proofs.Accepted.{tree_accepted}
use Rattle.tree.specs.Passes.{Sound, Costed, Marked}
use Rattle.tree.proofs.MembersListed.{marks_count}
use Rattle.tree.proofs.LocalCosts.{sound_lent, sound_lists}

module _ (t : Tree) (ok : tree_check t ≡ accepted) where
  pub accepted_sound : Sound t.parents
  accepted_sound = let a = tree_accepted t ok in record { few = a.few; rising = a.rooted }

  pub accepted_costed : Costed t.parents t.costs
  accepted_costed = let a = tree_accepted t ok in record { sized = sym a.same; limited = a.limited }

  pub accepted_marked : Marked t.parents t.marks
  accepted_marked = let a = tree_accepted t ok in record { sized = a.one_a_vertex; ends = a.ends }

  pub accepted_count : count (length t.marks) (marked t.marks) ≡ member_count (network t)
  accepted_count = marks_count t.parents t.marks accepted_marked

  pub counted_lent : Sound t.parents
      × (Costed t.parents t.costs
      × (Marked t.parents t.marks
      × (length {A = ℕ} (take (length t.parents - 0) (replicate most_arcs 0)) ≡ length t.parents)))
  counted_lent = sound_lent t accepted_sound accepted_costed accepted_marked

  pub accepted_lists : {cs : List ℕ} → cs ≡ counted_costs t → (rest : List ℕ)
      → Sound t.parents
      × (Costed t.parents (take (length t.parents - 0) (cs ++ rest)) × Marked t.parents t.marks)
  accepted_lists = sound_lists t accepted_sound accepted_costed accepted_marked
