-- Demand 3 about the level split's answers and lists.
use Prim.Native.Nat.{ℕ, ◌≤◌, ◌<◌}
use mathlib.Core.Path.{◌≡◌, refl, sym, ◌∙◌, subst}
use mathlib.Core.Logic.{inl, inr}
use mathlib.Core.List.{List, map}
use native.Mathlib.Omega.{arith}
use lib.ListN.{get_or}
use lib.IntN.{ℤ, pos}
use lib.Signed.{◌≤ℤ◌}
use Rattle.game.specs.Network.{member_count}
use Rattle.game.specs.Tree.{Tree, network}
use Rattle.basics.proofs.Sums.{In}
use Rattle.answer_forms.specs.Answer.{accepted}
use Rattle.answers.specs.Checks.{tree_check}
use Rattle.answers.specs.Level.{split, refusal, split_from, level_answer, level_shares, level_list}
use Rattle.answers.specs.LevelLaws.{lists_check, Fits, square_sum, RefusesSplit, Refused, ShortAt, HighAt, AboveAt}
use Rattle.answers.specs.LevelLaws.{LevelLaws, Demand3}
use Rattle.answers.proofs.LevelAnswered.{tree_ok, answered_by}
use Rattle.answers.proofs.LevelGiven.{given_list}
use Rattle.answers.proofs.LevelStops.{not_both, same_refusal, Floors, fit, above, floors_found}
use Rattle.answers.proofs.LevelStops.{Served, Walk, served, short, high, walk}
use Rattle.answers.proofs.LevelFits.{caps_enough, source_fits, fits_given, least_given}
use Rattle.answers.proofs.LevelRefusals.{none_between, short_at, high_at}

module _ (t : Tree) (caps floors out : List ℕ) (ok : lists_check t caps floors out ≡ accepted) where
  abbrev ready : tree_check t ≡ accepted
  ready = tree_ok t caps floors out ok

  -- every arc is served
  module _ (is_split : level_answer t caps floors out ≡ split (member_count (network t)))
      (all : (k : ℕ) → In (network t).arcs k → Served (network t) caps floors k) where
    abbrev list : level_list t caps floors out ≡ level_shares (network t) caps floors
    list = given_list t caps floors out is_split

    split_laws : LevelLaws t caps floors out
    split_laws =
        record {
          refused_exactly = (
            (λ r. absurd (not_both (sym is_split ∙ r.answered))),
            λ no. absurd (no (map pos (level_shares (network t) caps floors)) (fits_given t ready caps floors all)),
          );
          given_fits = λ e.
              subst (λ (l : List ℕ). Fits t caps floors (map pos l)) (sym list) (fits_given t ready caps floors all);
          least_squares = λ e.
              subst
              (λ (l : List ℕ). (shares : List ℤ) → Fits t caps floors shares
              → square_sum t (map pos l) ≤ℤ square_sum t shares)
              (sym list) (least_given t ready caps floors all);
          one_of_two = inl is_split;
          at_9 = λ place shortfall e. absurd (not_both (sym is_split ∙ e));
          at_27 = λ place shortfall e. absurd (not_both (sym is_split ∙ e));
          at_28 = λ place shortfall e. absurd (not_both (sym is_split ∙ e));
        }

  -- the split is refused
  module _ (number place shortfall : ℕ) (of_split : RefusesSplit number)
      (is : level_answer t caps floors out ≡ refusal number place shortfall)
      (none : (shares : List ℤ) → Fits t caps floors shares → ⊥)
      (by_9 : number ≡ 9 → ShortAt t caps floors out place shortfall)
      (by_27 : number ≡ 27 → AboveAt t caps floors place)
      (by_28 : number ≡ 28 → HighAt t caps floors place) where
    refused : Refused t caps floors out
    refused =
        record { number = number; place = place; shortfall = shortfall; of_split = of_split; answered = is }

    refused_laws : LevelLaws t caps floors out
    refused_laws =
        record {
          refused_exactly = (λ r. none, λ no. refused);
          given_fits = λ e. absurd (not_both (sym e ∙ is));
          least_squares = λ e. absurd (not_both (sym e ∙ is));
          one_of_two = inr refused;
          at_9 = λ p s e.
              let same = same_refusal (sym is ∙ e) in
              subst (λ (x : ℕ). ShortAt t caps floors out x s) same.1
              (subst (ShortAt t caps floors out place) same.2 (by_9 same.0));
          at_27 = λ p s e.
              let same = same_refusal (sym is ∙ e) in
              subst (AboveAt t caps floors) same.1 (by_27 same.0);
          at_28 = λ p s e.
              let same = same_refusal (sym is ∙ e) in
              subst (HighAt t caps floors) same.1 (by_28 same.0);
        }

  -- no floor is above its cap
  module _ (is : level_answer t caps floors out ≡ split_from (network t) caps floors (network t).arcs)
      (most : (j : ℕ) → j < member_count (network t) → get_or floors j 0 ≤ get_or caps j 0) where
    laws_of : Walk (network t) caps floors (network t).arcs → LevelLaws t caps floors out
    laws_of (served e all) = split_laws (is ∙ e) all
    laws_of (short a i e lacks others) =
        refused_laws 9 a _ (inl refl) (is ∙ e)
        (λ shares fits. omega (arith, caps_enough t ready caps floors shares fits a i))
        (λ z. short_at t caps floors out ok a i others most lacks) (λ z. absurd (omega arith))
        (λ z. absurd (omega arith))
    laws_of (high a i e enough source more others) =
        refused_laws 28 a 0 (inr (inr refl)) (is ∙ e)
        (λ shares fits. omega (arith, source_fits t ready caps floors shares fits a i source))
        (λ z. absurd (omega arith)) (λ z. absurd (omega arith))
        (λ z. high_at t caps floors out ok a i others enough source more)

  laws_at : Floors caps floors (member_count (network t)) → LevelLaws t caps floors out
  laws_at (fit e most) =
      laws_of (answered_by t caps floors out ok e) most (walk (network t) caps floors (network t).arcs)
  laws_at (above j h e more least) =
      refused_laws 27 j 0 (inr (inl refl)) (answered_by t caps floors out ok e)
      (none_between t caps floors j h more) (λ z. absurd (omega arith))
      (λ z. record { is_member = h; above = more; lowest = least }) (λ z. absurd (omega arith))

pub level_laws : Demand3
level_laws t caps floors out ok = laws_at t caps floors out ok (floors_found caps floors (member_count (network t)))
