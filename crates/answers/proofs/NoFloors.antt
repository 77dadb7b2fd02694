-- The level split where every floor is 0.
use Prim.Native.Nat.{ℕ, ◌-◌, ◌≤◌, ◌<◌}
use mathlib.Core.Path.{◌≡◌, sym, ◌∙◌}
use mathlib.Core.List.{List}
use native.Mathlib.Decide.{dec_lt}
use native.Mathlib.Omega.{arith}
use lib.ListN.{get_or}
use Rattle.game.specs.Network.{need, member_count}
use Rattle.game.specs.Tree.{Tree, network}
use Rattle.game.specs.Inward.{amount_of}
use Rattle.game.specs.Floors.{adjusted}
use Rattle.basics.proofs.Sums.{In}
use Rattle.game.proofs.LevelCosts.{level_same, amount_is_cost}
use Rattle.game.proofs.Adjusted.{adjusted_without}
use Rattle.answer_forms.specs.Answer.{accepted}
use Rattle.answers.specs.Level.{refusal, cap_sum, floors_check, split_from, level_answer}
use Rattle.answers.specs.LevelLaws.{lists_check, NoFloorsStatement}
use Rattle.answers.proofs.LevelAnswered.{tree_ok, answered_by}
use Rattle.answers.proofs.LevelFits.{tree_rooted, tree_ends}
use Rattle.answers.proofs.LevelStops.{not_both, same_refusal, Floors, fit, above, floors_found}
use Rattle.answers.proofs.LevelStops.{Walk, served, short, high, walk}

module _ (t : Tree) (caps floors out : List ℕ) (ok : lists_check t caps floors out ≡ accepted)
    (none : (j : ℕ) → get_or floors j 0 ≡ 0) where
  needs_stay : (k : ℕ) → In (network t).arcs k → adjusted (network t) floors k ≡ need (network t) k
  needs_stay =
      let tree = tree_ok t caps floors out ok in
      adjusted_without (network t) (tree_rooted t tree) (tree_ends t tree) floors none

  no_27 : Floors caps floors (member_count (network t)) → floors_check (member_count (network t)) caps floors ≡ accepted
  no_27 (fit e all) = e
  no_27 (above j h e more least) = absurd (omega (arith, none j))

  answered : level_answer t caps floors out ≡ split_from (network t) caps floors (network t).arcs
  answered = answered_by t caps floors out ok (no_27 (floors_found caps floors (member_count (network t))))

  only_9 : Walk (network t) caps floors (network t).arcs → (number place shortfall : ℕ)
      → level_answer t caps floors out ≡ refusal number place shortfall → number ≡ 9
  only_9 (served e all) number place shortfall is = absurd (not_both (sym (answered ∙ e) ∙ is))
  only_9 (short a i e s others) number place shortfall is = (same_refusal (sym is ∙ answered ∙ e)).0
  only_9 (high a i e c p h others) number place shortfall is = absurd (omega (arith, needs_stay a i))

  -- arc a is the first from the last down whose users' caps are short of its need
  module _ (a : ℕ) (i : In (network t).arcs a) (lacks : cap_sum (network t) caps a < need (network t) a)
      (others : (f : ℕ) → a < f → f ≤ (network t).arcs → need (network t) f ≤ cap_sum (network t) caps f) where
    first_short : Walk (network t) caps floors (network t).arcs
        → level_answer t caps floors out ≡ refusal 9 a (need (network t) a - cap_sum (network t) caps a)
    first_short (served e all) = absurd (omega (arith, (all a i).covered, needs_stay a i))
    first_short (high b j e c p h before) = absurd (omega (arith, needs_stay b j))
    first_short (short b j e s before) =
        let same : b ≡ a =
        elim (dec_lt a b) [
          | yes lo ↦ absurd (omega (arith, others b lo j.high, needs_stay b j))
          | no le ↦ elim (dec_lt b a) [
            | yes lo ↦ absurd (omega (arith, (before a lo i.high).covered, needs_stay a i))
            | no ge ↦ omega arith
          ]
        ]
        in
        answered ∙ e ∙ rw (same, needs_stay a i)

    pub short_without : level_answer t caps floors out ≡ refusal 9 a (need (network t) a - cap_sum (network t) caps a)
    short_without = first_short (walk (network t) caps floors (network t).arcs)

pub no_floors : NoFloorsStatement
no_floors t caps floors out ok none =
    record {
      needs_stay = λ k arc. stay k (record { low = arc.first; high = arc.last });
      gives_cost = λ k arc. gives k (record { low = arc.first; high = arc.last });
      same_shares =
          level_same (network t) (network t).cost caps (amount_of (network t) (adjusted (network t) floors))
          (network t).cost gives;
      only_9 = only_9 t caps floors out ok none (walk (network t) caps floors (network t).arcs);
    }
  where
    stay : (k : ℕ) → In (network t).arcs k → adjusted (network t) floors k ≡ need (network t) k
    stay = needs_stay t caps floors out ok none

    gives : (k : ℕ) → In (network t).arcs k → amount_of (network t) (adjusted (network t) floors) k ≡ (network t).cost k
    gives = amount_is_cost (network t) (tree_rooted t (tree_ok t caps floors out ok)) (adjusted (network t) floors) stay
