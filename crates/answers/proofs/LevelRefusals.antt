-- What the refusals of the level split name.
use Prim.Native.Nat.{ℕ, ◌-◌, ◌≤◌, ◌<◌}
use mathlib.Core.Path.{◌≡◌, ap, ◌∙◌}
use mathlib.Core.List.{List}
use native.Mathlib.Omega.{arith}
use borrow.Author.Tests.{le-ltb}
use lib.ListN.{get_or, replicate, length-replicate}
use lib.IntN.{ℤ, pos}
use Rattle.game.specs.Network.{need, member_count}
use Rattle.game.specs.Tree.{Tree, network}
use Rattle.game.specs.Floors.{adjusted}
use Rattle.basics.proofs.Sums.{In}
use Rattle.basics.proofs.Integers.{less_parts, le_less, le_trans_ℤ}
use Rattle.game.proofs.Below.{below_self, child_after}
use Rattle.game.proofs.Encoding.{zeros}
use Rattle.game.proofs.CoreLimits.{core_need, source_exact, core_adjusted, core_cap_sum}
use Rattle.game.proofs.Adjusted.{adjusted_need, adjusted_covered}
use Rattle.answer_forms.specs.Answer.{accepted}
use Rattle.limits.specs.Limits.{most_share}
use Rattle.answers.specs.Level.{refusal, cap_sum, outside_cap, level_answer}
use Rattle.answers.specs.LevelLaws.{lists_check, Fits, Passed, ShortAt, HighAt}
use Rattle.answers.proofs.InRange.{in_range}
use Rattle.answers.proofs.LevelAnswered.{tree_ok, caps_ok, out_ok}
use Rattle.answers.proofs.LevelStops.{Served}
use Rattle.answers.proofs.LevelFits.{tree_rooted, tree_ends}
use Rattle.answers.proofs.NoFloors.{short_without}

-- a floor above its cap: no share is from one to the other
pub none_between : (t : Tree) (caps floors : List ℕ) (j : ℕ) → j < member_count (network t)
    → get_or caps j 0 < get_or floors j 0 → (shares : List ℤ) → Fits t caps floors shares → ⊥
none_between t caps floors j h more shares fits =
    let c = pos (get_or caps j 0) in
    let f = pos (get_or floors j 0) in
    omega (
      arith,
      le_less f c (less_parts f) (less_parts c) (le_trans_ℤ (fits.keeps_floors j h) (fits.keeps_caps j h)),
    )

module _ (t : Tree) (caps floors out : List ℕ) (ok : lists_check t caps floors out ≡ accepted) (a : ℕ)
    (i : In (network t).arcs a)
    (others : (f : ℕ) → a < f → f ≤ (network t).arcs → Served (network t) caps floors f) where
  passed : Passed t caps floors a
  passed =
      record {
        caps_enough = λ k lo arc. (others k lo arc.last).covered;
        floors_fit = λ k lo arc. (others k lo arc.last).fits;
      }

  pub high_at : adjusted (network t) floors a ≤ cap_sum (network t) caps a → (network t).parent a ≡ 0
      → need (network t) a < adjusted (network t) floors a → HighAt t caps floors a
  high_at enough source more =
      record {
        is_arc = record { first = i.low; last = i.high };
        from_source = source;
        above = more;
        first = passed;
        caps_enough = enough;
        cannot_serve = λ shares core kept.
            let tree = tree_ok t caps floors out ok in
            let at = tree_rooted t tree in
            omega (
              arith,
              source_exact (network t) at (tree_ends t tree) shares core a i source,
              core_adjusted (network t) at (tree_ends t tree) shares core floors a kept a i
                  (below_self (network t) at a),
            );
      }

  -- the floors are no higher than the caps
  module _ (most : (j : ℕ) → j < member_count (network t) → get_or floors j 0 ≤ get_or caps j 0)
      (lacks : cap_sum (network t) caps a < adjusted (network t) floors a) where
    -- the arcs below it are served, so its need alone is more than its users' caps
    by_need : adjusted (network t) floors a ≡ need (network t) a
    by_need =
        let tree = tree_ok t caps floors out ok in
        let at = tree_rooted t tree in
        omega (
          arith,
          adjusted_need (network t) at (tree_ends t tree) floors a i,
          adjusted_covered (network t) at (tree_ends t tree) floors caps most a i
              (λ u j e. (others u (child_after (network t) at a u j e) j.high).covered),
        )

    -- the same lists with floors of 0
    abbrev no_floors : List ℕ
    no_floors = replicate (member_count (network t)) 0

    zero : (j : ℕ) → get_or no_floors j 0 ≡ 0
    zero = zeros (member_count (network t))

    lists_ok : lists_check t caps no_floors out ≡ accepted
    lists_ok =
        rw (
          tree_ok t caps floors out ok,
          caps_ok t caps floors out ok,
          in_range outside_cap 0 (member_count (network t)) no_floors (length-replicate (member_count (network t)) 0)
              (λ j h. le-ltb most_share (get_or no_floors j 0) (omega (arith, zero j))),
        )
        (out_ok t caps floors out ok)

    without_floors : level_answer t caps no_floors out
        ≡ refusal 9 a (adjusted (network t) floors a - cap_sum (network t) caps a)
    without_floors =
        short_without t caps no_floors out lists_ok zero a i (omega (arith, by_need))
        (λ f lo hi.
        let tree = tree_ok t caps floors out ok in
        omega (
          arith,
          (others f lo hi).covered,
          adjusted_need (network t) (tree_rooted t tree) (tree_ends t tree) floors f (omega (arith, i.low)),
        ))
        ∙ ap (λ (x : ℕ). refusal 9 a (x - cap_sum (network t) caps a)) (omega (arith, by_need))

    pub short_at : ShortAt t caps floors out a (adjusted (network t) floors a - cap_sum (network t) caps a)
    short_at =
        record {
          is_arc = record { first = i.low; last = i.high };
          exact = omega arith;
          some_short = omega arith;
          first = passed;
          by_need = by_need;
          without_floors = without_floors;
          cannot_serve = λ shares core kept.
              let tree = tree_ok t caps floors out ok in
              let at = tree_rooted t tree in
              omega (
                arith,
                by_need,
                core_need (network t) at (tree_ends t tree) shares core a i,
                core_cap_sum (network t) at (tree_ends t tree) shares core caps a kept,
              );
        }
