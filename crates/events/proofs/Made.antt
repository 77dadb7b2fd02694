-- The state made of a tree: its padded lists, and the shares, which are written to the front of an array of zeros.
use Prim.Native.Nat.{ℕ, ◌-◌, ◌≤◌}
use mathlib.Core.Path.{◌≡◌, refl, sym, ap, ◌∙◌}
use mathlib.Core.List.{List, [], ◌++◌}
use borrow.Author.Tests.{eq-eqb}
use lib.ListN.{length, take, drop}
use Rattle.basics.proofs.Lists.{zeros_length}
use Rattle.limits.specs.Limits.{most_arcs}
use Rattle.game.specs.Network.{member_count}
use Rattle.game.specs.Tree.{Tree, network}
use Rattle.game.specs.ByArc.{by_arc}
use Rattle.answer_forms.specs.Answer.{Check, accepted, refused, value, refusal, written}
use Rattle.answer_forms.proofs.Composed.{answered, refused_answer, then_nothing}
use Rattle.answers.specs.Checks.{tree_check}
use Rattle.answers.specs.Members.{members_check, member_count_answer}
use Rattle.answers.specs.ByArc.{by_arc_answer, by_arc_list}
use Rattle.answers.specs.States.{State, padded, no_state, made_state}
use Rattle.answers.proofs.ByArcLaws.{by_arc_laws}
use Rattle.events.proofs.Arrays.{zeros_are, front_padded}

once_more : {A : Type 0} (c : Check) (before after : A) → written c before (written c before after) ≡ written c before after
once_more accepted before after = refl
once_more (refused number place) before after = refl

-- what the engine's answer says of the tree that it is about
module _ (t : Tree) where
  pub counted : {n : ℕ} → value n ≡ member_count_answer t → (tree_check t ≡ accepted) × (n ≡ member_count (network t))
  unfolding member_count_answer
  counted e = answered (tree_check t) _ _ (sym e)

  pub not_counted : {number place : ℕ} → refusal number place ≡ member_count_answer t
      → tree_check t ≡ refused number place
  unfolding member_count_answer
  not_counted e = refused_answer (tree_check t) _ e

-- a list for the shares with one entry a member
module _ (t : Tree) (out : List ℕ) (sized : length out ≡ member_count (network t)) where
  pub check_same : members_check t out ≡ tree_check t
  check_same = then_nothing (tree_check t) (rw (eq-eqb (length out) (member_count (network t)) sized))

  pub split_answer : by_arc_answer t out ≡ member_count_answer t
  unfolding by_arc_answer member_count_answer
  split_answer = rw check_same

  pub split_list : by_arc_list t out ≡ written (tree_check t) out (by_arc (network t))
  unfolding by_arc_list
  split_list = rw check_same

-- shares written to the front of an array of zeros, one a member
module _ (t : Tree) (n : ℕ) (counts : n ≡ member_count (network t)) (few : n ≤ most_arcs)
    {zeros : List ℕ} (are : zeros ≡ padded []) where
  abbrev lent : List ℕ
  lent = take (n - 0) zeros

  sized : length lent ≡ member_count (network t)
  sized = ap (λ (z : List ℕ). length (take (n - 0) z)) (zeros_are are) ∙ zeros_length most_arcs n few ∙ counts

  pub lent_answer : by_arc_answer t lent ≡ member_count_answer t
  lent_answer = split_answer t lent sized

  pub split_accepted : {k : ℕ} → value k ≡ by_arc_answer t lent → tree_check t ≡ accepted
  split_accepted e = (counted t (e ∙ lent_answer)).0

  pub split_refused : {number place : ℕ} → refusal number place ≡ by_arc_answer t lent
      → tree_check t ≡ refused number place
  split_refused e = not_counted t (e ∙ lent_answer)

  module _ (ok : tree_check t ≡ accepted) where
    lent_list : by_arc_list t lent ≡ by_arc (network t)
    lent_list = rw ok at (split_list t lent sized)

    shares_length : n ≡ length (by_arc (network t))
    shares_length =
        counts ∙ sym (by_arc_laws t lent (check_same t lent sized ∙ ok)).one_a_member ∙ ap length lent_list

    pub shares_padded : {l : List ℕ} → l ≡ by_arc_list t lent → l ++ drop (n - 0) zeros ≡ padded (by_arc (network t))
    shares_padded e = front_padded are (e ∙ lent_list) shares_length

module _ (t : Tree) (n : ℕ) where
  pub made : {ps cs ms shares : List ℕ} → tree_check t ≡ accepted
      → ps ≡ padded t.parents → cs ≡ padded t.costs → ms ≡ padded t.marks
      → shares ≡ padded (by_arc (network t))
      → ◌≡◌ {A = State}
      (record { arcs = length t.parents; parents = ps; costs = cs; marks = ms; shares = shares; committed = n })
      (made_state t n)
  unfolding made_state
  made ok p c m s = rw (ok, p, c, m, s)

  -- a refused tree makes the state that is 0 throughout
  pub made_or_zero : written (tree_check t) no_state (made_state t n) ≡ made_state t n
  unfolding made_state
  made_or_zero = once_more (tree_check t) _ _
