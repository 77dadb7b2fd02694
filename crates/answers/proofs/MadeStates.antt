-- The state made of an accepted tree: its tree, its shares, and what it answers.
use Prim.Native.Nat.{ℕ, ◌-◌}
use mathlib.Core.Path.{◌≡◌, refl, sym}
use mathlib.Core.List.{List, [], map}
use borrow.Author.Tests.{eq-eqb, le-ltb}
use lib.ListN.{length, take, replicate, length-replicate}
use lib.Seq.{take_at}
use lib.IntN.{pos}
use Rattle.limits.specs.Limits.{most_arcs}
use Rattle.game.specs.Network.{member_count}
use Rattle.game.specs.Tree.{Tree, network}
use Rattle.game.specs.ByArc.{by_arc}
use Rattle.answer_forms.specs.Answer.{accepted, ◌then◌, answer, written}
use Rattle.answers.specs.Checks.{tree_check}
use Rattle.answers.specs.Members.{members_check}
use Rattle.answers.specs.Audit.{Passes}
use Rattle.answers.specs.ByArc.{by_arc_list}
use Rattle.answers.specs.States.{padded, holding, made_state, tree_in, state_check}
use Rattle.answers.specs.Events.{Event, reached, event_check, apply_check}
use Rattle.answers.specs.Quotes.{Quote, quote_at, ask_answer, asked_shares}
use Rattle.answers.specs.Quotes.{number_check, commit_check, commit_answer}
use Rattle.answers.proofs.Accepted.{tree_accepted}
use Rattle.answers.proofs.ByArcLaws.{by_arc_laws}

padded_front : (l : List ℕ) (n : ℕ) → length l ≡ n → take n (padded l) ≡ l
unfolding padded
padded_front l n e = take_at l (replicate (most_arcs - length l) 0) n e

module _ (t : Tree) (n : ℕ) (ok : tree_check t ≡ accepted) where
  pub made_is : made_state t n ≡ holding t (by_arc (network t)) n
  unfolding made_state
  made_is = rw ok

  -- the tree of the state made of it
  pub tree_in_lem : tree_in (made_state t n) ≡ t
  unfolding tree_in
  tree_in_lem =
      let facts = tree_accepted t ok in
      rw (
        made_is,
        padded_front t.parents (length t.parents) refl,
        padded_front t.costs (length t.parents) (sym facts.same),
        padded_front t.marks (length t.parents) facts.one_a_vertex,
      )

  pub made_committed : (made_state t n).committed ≡ n
  made_committed = rw made_is

  state_accepted : state_check (made_state t n) ≡ accepted
  unfolding state_check
  state_accepted =
      let few = le-ltb most_arcs (length t.parents) (tree_accepted t ok).few in
      rw tree_in_lem (rw made_is (rw few ok))

  pub apply_check_lem : (e : Event) → apply_check (made_state t n) e ≡ event_check t e
  apply_check_lem e = rw (state_accepted, tree_in_lem)

  pub commit_check_lem : (q : Quote)
      → commit_check (made_state t n) q ≡ (number_check q.committed n then event_check t q.event)
  unfolding commit_check
  commit_check_lem q = rw (apply_check_lem q.event, made_committed)

  pub made_asks : (e : Event) → ask_answer (made_state t n) e
      ≡ answer (event_check t e) (record { members = member_count (network (reached t e)); quote = quote_at e n })
  unfolding ask_answer
  made_asks e = rw (apply_check_lem e, tree_in_lem, made_committed)

  pub made_quotes : (e : Event) → asked_shares (made_state t n) e
      ≡ written (event_check t e) (padded []) (padded (by_arc (network (reached t e))))
  unfolding asked_shares
  made_quotes e = rw (apply_check_lem e, tree_in_lem)

  pub made_commits : (q : Quote) → commit_answer (made_state t n) q
      ≡ answer (number_check q.committed n then event_check t q.event)
      (member_count (network (reached t q.event)))
  unfolding commit_answer
  made_commits q = rw (commit_check_lem q, tree_in_lem)

  pub made_shares : (out : List ℕ) → members_check t out ≡ accepted → (made_state t n).shares ≡ padded (by_arc_list t out)
  unfolding by_arc_list
  made_shares out fits = rw (made_is, fits)

  abbrev count : ℕ
  count = member_count (network t)

  -- a list with one entry a member
  lent : List ℕ
  lent = replicate count 0

  lent_accepted : members_check t lent ≡ accepted
  unfolding lent
  lent_accepted = rw (ok, length-replicate {A = ℕ} count 0, eq-eqb count count refl)

  pub made_passes : Passes t (map pos (take count (made_state t n).shares))
  made_passes =
      let laws = by_arc_laws t lent lent_accepted in
      rw (made_shares lent lent_accepted, padded_front (by_arc_list t lent) count laws.one_a_member) laws.passes
