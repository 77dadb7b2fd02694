-- Lists that fit caps and floors, and the level rule's list.
--
--   caps_enough, source_fits   where a list fits: every arc is served
--   fits_given, least_given    where every arc is served: the rule's list fits, with the least sum of squares
use Prim.Native.Nat.{ℕ, ◌*◌, ◌≤◌, ◌<◌}
use mathlib.Core.Path.{◌≡◌, refl, sym, ap, ◌∙◌}
use mathlib.Core.Bool.{Bool, true, false}
use mathlib.Core.List.{List, map}
use native.Mathlib.Omega.{arith}
use borrow.Author.Tests.{eqb-true}
use lib.ListN.{get_or, get_or-map, length-map}
use lib.IntN.{ℤ, pos, negsuc, ◌*ℤ◌}
use lib.Signed.{◌≤ℤ◌}
use lib.Dec.{eqb}
use Rattle.basics.specs.Sum.{pick, sum}
use Rattle.game.specs.Network.{sum_below, need, number, member_count, whole_cost}
use Rattle.game.specs.Tree.{Tree, network}
use Rattle.basics.specs.Integer.{plus, minus}
use Rattle.game.specs.Proposal.{share}
use Rattle.game.specs.Core.{CoreByNeed}
use Rattle.game.specs.Inward.{amount_of}
use Rattle.game.specs.Floors.{adjusted}
use Rattle.basics.proofs.Bools.{pick_yes, pick_no, pick_same}
use Rattle.basics.proofs.Sums.{In, sum_cong}
use Rattle.basics.proofs.Integers.{less_parts, less_le, sum_pos_ℤ}
use Rattle.game.proofs.Below.{Rooted, all_below_source, sum_from_source}
use Rattle.game.proofs.Excess.{MembersEnd}
use Rattle.game.proofs.Overpayment.{over_at, members_sum}
use Rattle.game.proofs.Numbering.{vertex_of}
use Rattle.game.proofs.NaturalShares.{over_pos, natural_core}
use Rattle.game.proofs.Core.{users_by_vertex, need_to_core, core_nonneg, own_sum}
use Rattle.game.proofs.CoreLimits.{source_exact, core_adjusted, core_under_caps, core_cap_sum}
use Rattle.game.proofs.Bump.{squares}
use Rattle.game.proofs.LevelRule.{Reached, Admits, reached_total}
use Rattle.game.proofs.LevelList.{view, view_off, Stands, level_stands}
use Rattle.game.proofs.LevelBounds.{amounts_below, amounts_all}
use Rattle.game.proofs.Adjusted.{adjusted_need, adjusted_floor, adjusted_grows}
use Rattle.answer_forms.specs.Answer.{accepted}
use Rattle.answers.specs.Checks.{tree_check}
use Rattle.answers.specs.Level.{cap_sum, level_shares}
use Rattle.answers.specs.LevelLaws.{Fits, square_sum}
use Rattle.answers.proofs.Accepted.{tree_accepted}
use Rattle.answers.proofs.CoreLaws.{members_end}
use Rattle.answers.proofs.LevelStops.{Served}

square_of : (x : ℤ) → minus x ≡ 0 → x *ℤ x ≡ pos (plus x * plus x)
square_of (pos a) e = refl
square_of (negsuc a) e = absurd (omega arith)

pick_square : (b : Bool) (a : ℕ) → pick b (a * a) ≡ pick b a * pick b a
pick_square true a = refl
pick_square false a = refl

pub tree_rooted : (t : Tree) → tree_check t ≡ accepted → Rooted (network t)
tree_rooted t ok = (tree_accepted t ok).rooted

pub tree_ends : (t : Tree) → tree_check t ≡ accepted → MembersEnd (network t)
tree_ends t ok = members_end t (tree_accepted t ok)

module _ (t : Tree) (ok : tree_check t ≡ accepted) (caps floors : List ℕ) where
  abbrev rooted : Rooted (network t)
  rooted = tree_rooted t ok

  abbrev ends : MembersEnd (network t)
  ends = tree_ends t ok

  -- what the arcs give out
  abbrev amount : ℕ → ℕ
  amount = amount_of (network t) (adjusted (network t) floors)

  -- what the arcs at or below an arc give out
  amounts : (k : ℕ) → In (network t).arcs k → sum_below (network t) amount k ≡ adjusted (network t) floors k
  amounts =
      amounts_below (network t) rooted (adjusted (network t) floors) (adjusted_grows (network t) rooted ends floors)

  module _ (shares : List ℤ) (none_less : (j : ℕ) → j < member_count (network t) → minus (share shares j) ≡ 0) where
    -- by vertex
    square_sum_lem : square_sum t shares ≡ pos (squares (network t).arcs (over_at (network t) shares))
    square_sum_lem =
        sum_pos_ℤ (member_count (network t)) (λ j. share shares j *ℤ share shares j)
        (λ j. plus (share shares j) * plus (share shares j))
        (λ j h. square_of (share shares j) (none_less j h))
        ∙ ap pos
        (members_sum (network t).arcs (network t).member (λ j. plus (share shares j) * plus (share shares j))
        ∙ sum_cong (network t).arcs
        (λ v i. pick_square ((network t).member v) (plus (share shares (number (network t) v)))))

  -- a list that fits is one that the rule's list is compared with
  module _ (shares : List ℤ) (fits : Fits t caps floors shares) where
    -- at or below each arc it has the adjusted need
    has_adjusted : (k : ℕ) → In (network t).arcs k
        → adjusted (network t) floors k ≤ sum_below (network t) (over_at (network t) shares) k
    has_adjusted k i =
        core_adjusted (network t) rooted ends shares fits.in_core floors 0 (λ j h u. fits.keeps_floors j h) k i
        (all_below_source (network t) rooted k)

    pub caps_enough : (k : ℕ) → In (network t).arcs k → adjusted (network t) floors k ≤ cap_sum (network t) caps k
    caps_enough k i =
        omega (
          arith,
          has_adjusted k i,
          core_cap_sum (network t) rooted ends shares fits.in_core caps k (λ j h u. fits.keeps_caps j h),
        )

    pub source_fits : (k : ℕ) → In (network t).arcs k → (network t).parent k ≡ 0
        → adjusted (network t) floors k ≤ need (network t) k
    source_fits k i e =
        omega (arith, has_adjusted k i, source_exact (network t) rooted ends shares fits.in_core k i e)

    admits : Admits (network t) (view (network t) caps) amount 0 0 (over_at (network t) shares)
    admits =
        record {
          off = λ v i m. pick_no (plus (share shares (number (network t) v))) m;
          caps = λ v i.
              core_under_caps (network t) rooted ends shares fits.in_core caps 0 (λ j h u. fits.keeps_caps j h) v i
              (all_below_source (network t) rooted v);
          kept = λ f lo hi. omega (arith, has_adjusted f (omega arith), amounts f (omega arith));
          enough = λ i. absurd (omega arith);
        }

  -- where every arc is served the rule's list is one
  module _ (all : (k : ℕ) → In (network t).arcs k → Served (network t) caps floors k) where
    given : List ℕ
    given = level_shares (network t) caps floors

    covered : (k : ℕ) → In (network t).arcs k → sum_below (network t) amount k ≤ cap_sum (network t) caps k
    covered k i = omega (arith, amounts k i, (all k i).covered)

    stands : Stands (network t) caps amount 0 0 given
    unfolding given
    stands = level_stands (network t) rooted caps amount covered

    reached : Reached (network t) (view (network t) caps) amount 0 0 (view (network t) given)
    reached = stands.reached

    -- at or below each arc it has the adjusted need
    given_has : (k : ℕ) → In (network t).arcs k
        → adjusted (network t) floors k ≤ sum_below (network t) (view (network t) given) k
    given_has k i = omega (arith, reached.kept k i.low i.high, amounts k i)

    -- all arcs together give out the whole cost
    all_amounts : sum (network t).arcs amount ≡ whole_cost (network t)
    unfolding whole_cost
    all_amounts =
        amounts_all (network t) rooted (adjusted (network t) floors)
        (adjusted_grows (network t) rooted ends floors)
        ∙ sum_cong (network t).arcs
        (λ u i.
        pick_same (eqb ((network t).parent u) 0)
        (λ e.
        omega (
          arith,
          adjusted_need (network t) rooted ends floors u i,
          (all u i).fits (eqb-true ((network t).parent u) 0 e),
        )))
        ∙ sym (sum_from_source (network t) rooted (network t).cost)

    shares_given : (j : ℕ) → share (map pos given) j ≡ pos (get_or given j 0)
    shares_given j = get_or-map pos given j 0

    by_need : CoreByNeed (network t) (map pos given)
    by_need =
        natural_core (network t) given
        (members_sum (network t).arcs (network t).member (λ j. get_or given j 0)
        ∙ reached_total (network t) rooted (view (network t) caps) amount (view_off (network t) caps)
        covered (view (network t) given) reached
        ∙ all_amounts)
        (λ k i.
        omega (
          arith,
          users_by_vertex (network t) (λ j. get_or given j 0) k,
          given_has k (omega (arith, i.first, i.last)),
          adjusted_need (network t) rooted ends floors k (omega (arith, i.first, i.last)),
        ))

    -- member j's share, between its floor and its cap
    within : (j : ℕ) → j < member_count (network t)
        → (get_or floors j 0 ≤ get_or given j 0) × (get_or given j 0 ≤ get_or caps j 0)
    within j h =
        let v = vertex_of (network t).member (network t).arcs j h in
        let same : (l : List ℕ) → view (network t) l v.vertex ≡ get_or l j 0 =
        λ l. pick_yes (get_or l (number (network t) v.vertex) 0) v.is_member
        ∙ ap (λ (i : ℕ). get_or l i 0) v.numbered
        in (
          omega (
            arith,
            same given,
            ap (λ (i : ℕ). get_or floors i 0) v.numbered,
            adjusted_floor (network t) rooted ends floors v.vertex v.within v.is_member,
            given_has v.vertex v.within,
            own_sum (network t) rooted ends (view (network t) given) v.vertex v.within v.is_member,
          ),
          omega (arith, same given, same caps, reached.caps v.vertex v.within),
        )

    pub fits_given : Fits t caps floors (map pos (level_shares (network t) caps floors))
    unfolding given
    fits_given =
        record {
          one_a_member = length-map given pos ∙ stands.sized;
          in_core = need_to_core (network t) rooted ends (map pos given) by_need;
          keeps_floors = λ j h.
              let x = share (map pos given) j in
              let f = pos (get_or floors j 0) in
              less_le f x (less_parts f) (less_parts x)
              (omega (arith, ap plus (shares_given j), ap minus (shares_given j), (within j h).0));
          keeps_caps = λ j h.
              let x = share (map pos given) j in
              let c = pos (get_or caps j 0) in
              less_le x c (less_parts x) (less_parts c)
              (omega (arith, ap plus (shares_given j), ap minus (shares_given j), (within j h).1));
        }

    pub least_given : (shares : List ℤ) → Fits t caps floors shares
        → square_sum t (map pos (level_shares (network t) caps floors)) ≤ℤ square_sum t shares
    unfolding given
    least_given shares fits =
        let mine = squares (network t).arcs (over_at (network t) (map pos given)) in
        let other = squares (network t).arcs (over_at (network t) shares) in
        rw (
          square_sum_lem (map pos given) (λ j h. ap minus (shares_given j)),
          square_sum_lem shares (core_nonneg (network t) rooted ends shares fits.in_core),
        )
        (less_le (pos mine) (pos other) (less_parts (pos mine)) (less_parts (pos other))
        (omega (
          arith,
          sum_cong (network t).arcs (λ v i. ap (λ (z : ℕ). z * z) (over_pos (network t) given v)),
          reached.best (over_at (network t) shares) (admits shares fits),
        )))
