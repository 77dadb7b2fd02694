-- The laws of the widest margin, about the entry's answers and lists.
use Prim.Native.Nat.{ℕ, ◌≤◌}
use mathlib.Core.Path.{◌≡◌, sym, ap, ◌∙◌}
use mathlib.Core.Bool.{true, not}
use mathlib.Core.List.{List}
use native.Mathlib.Omega.{arith}
use borrow.Author.Tests.{ltb-false, not-false}
use lib.ListN.{length-map}
use lib.IntN.{ℤ, pos}
use lib.Dec.{ltb}
use Rattle.game.specs.Network.{Network, need, member_count}
use Rattle.game.specs.Tree.{Tree, network}
use Rattle.game.specs.Proposal.{pays}
use Rattle.game.specs.ByArc.{user_count}
use Rattle.game.specs.Margin.{widest, shares_at}
use Rattle.game.proofs.Below.{below_self}
use Rattle.game.proofs.Branched.{Branched, all_users}
use Rattle.game.proofs.Raised.{widest_passes}
use Rattle.game.proofs.Margin.{margin_length, margin_total, margin_all, margin_greatest, margin_none_wider}
use Rattle.answer_forms.specs.Answer.{Check, accepted, value, fault, ◌then◌, answer, written}
use Rattle.answer_forms.proofs.Composed.{first_accepted, second_accepted, no_fault}
use Rattle.answers.specs.Checks.{tree_check, output_check}
use Rattle.answers.specs.Margin.{MarginValue, leaves_source, branch_at, margin_check, margin_answer, margin_list}
use Rattle.answers.specs.MarginLaws.{SplitOf, MarginLaws, MarginStatement}
use Rattle.answers.proofs.Accepted.{tree_accepted}
use Rattle.answers.proofs.BranchLaws.{branch_laws, branch_rooted, branch_end, branch_free, branch_whole}
use Rattle.answers.proofs.BranchLaws.{leaves_accepted}

-- what it means that the checks find nothing
pub record MarginAccepted (t : Tree) (arc : ℕ) : Type 0 where
  pub tree : tree_check t ≡ accepted
  pub leaves : leaves_source t.parents arc ≡ true
  pub two : 2 ≤ user_count (network t) arc

pub margin_accepted : (t : Tree) (arc : ℕ) (out : List ℕ) → margin_check t arc out ≡ accepted → MarginAccepted t arc
margin_accepted t arc out ok =
    record {
      tree = first_accepted (tree_check t) (from_source then users then output) ok;
      leaves =
          not-false (leaves_source t.parents arc)
          (no_fault (not (leaves_source t.parents arc)) 25 arc
          (first_accepted from_source (users then output) after_tree));
      two =
          ltb-false (user_count (network t) arc) 2
          (no_fault (ltb (user_count (network t) arc) 2) 26 arc
          (first_accepted users output (second_accepted from_source (users then output) after_tree)));
    }
  where
    from_source : Check
    from_source = fault (not (leaves_source t.parents arc)) 25 arc

    users : Check
    users = fault (ltb (user_count (network t) arc) 2) 26 arc

    output : Check
    output = output_check (user_count (network t) arc) out

    after_tree : (from_source then users then output) ≡ accepted
    after_tree = second_accepted (tree_check t) (from_source then users then output) ok

module _ (t : Tree) (arc : ℕ) (a : MarginAccepted t arc) where
  abbrev part : Network
  part = branch_at t arc

  abbrev shares : List ℕ
  shares = shares_at part (widest part arc)

  whole : Branched part arc
  whole = branch_whole t arc a.tree a.leaves

  as_many : member_count part ≡ user_count (network t) arc
  as_many = (branch_laws t arc a.tree a.leaves).as_many

  two : 2 ≤ member_count part
  two = omega (arith, as_many, a.two)

  same_need : need part arc ≡ need (network t) arc
  same_need =
      let i = (leaves_accepted t.parents arc a.leaves).0 in
      (branch_laws t arc a.tree a.leaves).needs_are arc (record { first = i.low; last = i.high })
      (below_self (network t) (tree_accepted t a.tree).rooted arc)

  -- another split, as one of the network's
  other_adds : (others : List ℤ) → SplitOf t arc others → pays part others (λ j. true) ≡ pos (need part arc)
  other_adds others s = s.adds_up ∙ ap pos (sym same_need)

  abbrev found : MarginValue
  found = record { margin = widest part arc; users = user_count (network t) arc }

  -- the list that is written and the margin that is answered
  module _ (out : List ℕ) (list : margin_list t arc out ≡ shares) (answered : margin_answer t arc out ≡ value found)
    where
      laws_of : MarginLaws t arc out
      laws_of =
          let rooted = branch_rooted t arc a.tree in
          let ends = branch_end t arc a.tree in
          let free = branch_free t arc a.tree in
          record {
            margin = widest part arc;
            answered = answered;
            is_split =
                rw list
                (record {
                  one_a_user = length-map shares pos ∙ margin_length part rooted ends free arc whole two ∙ as_many;
                  adds_up = margin_total part rooted ends free arc whole two ∙ ap pos same_need;
                });
            all_have = rw list (margin_all part rooted ends free arc whole two);
            none_wider = λ others s.
                let found = margin_none_wider part rooted ends free arc whole two others (other_adds others s) in
                record { group = found.0; proper = found.1; at_most = found.2 };
            possible =
                widest_passes part rooted arc whole.arc
                (omega (arith, all_users part rooted arc whole, two))
                ∙ same_need;
            greatest = λ d more.
                omega (arith, margin_greatest part rooted ends free arc whole two d more, same_need);
          }

pub margin_laws : MarginStatement
unfolding margin_answer margin_list
margin_laws t arc out ok =
    let part = branch_at t arc in
    laws_of t arc (margin_accepted t arc out ok) out
    (ap (λ (c : Check). written c out (shares_at part (widest part arc))) ok)
    (ap (λ (c : Check). answer c (found t arc (margin_accepted t arc out ok))) ok)
