-- The by-arc split's shares, arc by arc.
use Prim.Native.Nat.{ℕ, zero, suc, ◌+◌, ◌-◌, ◌≤◌, ◌<◌}
use mathlib.Core.Path.{◌≡◌, refl, sym, ap, ◌∙◌}
use mathlib.Core.Bool.{true}
use mathlib.Core.List.{List}
use native.Mathlib.Omega.{arith}
use lib.ListN.{length, get_or, length-replicate}
use Rattle.basics.specs.Sum.{pick, sum}
use Rattle.game.specs.Network.{Network, used, everyone, member_count}
use Rattle.game.specs.Core.{users}
use Rattle.game.specs.ByArc.{user_count, equal_part, served, gives, tallied, Standing, give_arc, handled, by_arc}
use Rattle.game.specs.ByArc.{tallies_at, gift}
use Rattle.basics.proofs.Bools.{pick_le}
use Rattle.basics.proofs.Sums.{sum_add}
use Rattle.basics.proofs.Lists.{entries_length, entries_at}
use Rattle.game.proofs.Encoding.{zeros}
use Rattle.game.proofs.Meets.{used_by_number, shared_by}
use Rattle.game.proofs.Shapley.{user_count_pos}

module _ (n : Network) where
  -- an arc that somebody uses
  pub used_count : (k : ℕ) → used n everyone k ≡ true → 0 < user_count n k
  used_count k e =
      let s = shared_by (member_count n) (λ j. true) (users n k) (sym (used_by_number n (λ j. true) k) ∙ e) in
      user_count_pos n k s.which s.below s.other

  give_shares : (k : ℕ) (s : Standing) (j : ℕ) → j < member_count n
      → get_or (give_arc n k s).shares j 0 ≡ get_or s.shares j 0 + gives n k s.tallies j
  unfolding give_arc
  give_shares k s j h = entries_at (λ i. get_or s.shares i 0 + gives n k s.tallies i) 0 (member_count n) j h

  pub tallied_at : (k : ℕ) (tallies : List ℕ) (j : ℕ) → j < member_count n
      → get_or (tallied n k tallies) j 0 ≡ get_or tallies j 0 + pick (served n k tallies j) 1
  unfolding tallied
  tallied_at k tallies j h = entries_at (λ i. get_or tallies i 0 + pick (served n k tallies i) 1) 0 (member_count n) j h

  shares_length : (i : ℕ) → length (handled n i).shares ≡ member_count n
  unfolding handled give_arc
  shares_length zero = length-replicate {A = ℕ} (member_count n) 0
  shares_length (suc i) =
      let tallies = (handled n i).tallies in
      entries_length (λ j. get_or (handled n i).shares j 0 + gives n (n.arcs - i) tallies j) (member_count n)

  pub by_arc_length : length (by_arc n) ≡ member_count n
  by_arc_length = shares_length n.arcs

  pub handled_tallies : (i : ℕ) → (handled n (suc i)).tallies ≡ tallied n (n.arcs - i) (handled n i).tallies
  unfolding handled give_arc
  handled_tallies i = refl

  pub first_tally : (j : ℕ) → get_or (handled n 0).tallies j 0 ≡ 0
  unfolding handled
  first_tally j = zeros (member_count n) j

  next_tally : (i j : ℕ) → j < member_count n
      → get_or (handled n (suc i)).tallies j 0
      ≡ get_or (handled n i).tallies j 0 + pick (served n (n.arcs - i) (handled n i).tallies j) 1
  next_tally i j h = rw (handled_tallies i) (tallied_at (n.arcs - i) (handled n i).tallies j h)

  -- at most one unit an arc
  pub tally_limit : (i j : ℕ) → j < member_count n → get_or (handled n i).tallies j 0 ≤ i
  tally_limit zero j h = omega (arith, first_tally j)
  tally_limit (suc i) j h =
      omega (arith, next_tally i j h, tally_limit i j h, pick_le (served n (n.arcs - i) (handled n i).tallies j) 1)

  -- the arcs above k have been handled, then k is
  next_tallies : (i : ℕ) → i < n.arcs → tallies_at n (n.arcs - i) ≡ (handled n i).tallies
  next_tallies i h = let e : n.arcs - (n.arcs - i) ≡ i = omega arith in ap (λ (a : ℕ). (handled n a).tallies) e

  -- what grows by the amount of each arc handled, from 0
  from_last : (x amount : ℕ → ℕ) → x 0 ≡ 0 → ((i : ℕ) → i < n.arcs → x (suc i) ≡ x i + amount (n.arcs - i))
      → (i : ℕ) → i ≤ n.arcs → x i + sum (n.arcs - i) amount ≡ sum n.arcs amount
  from_last x amount start next zero h = let e : n.arcs - 0 ≡ n.arcs = omega arith in rw (start, e) (omega arith)
  from_last x amount start next (suc i) h =
      let e : n.arcs - i ≡ suc (n.arcs - suc i) = omega arith in
      omega (
        arith,
        from_last x amount start next i (omega arith),
        next i h,
        ap (λ (a : ℕ). sum a amount) e,
        ap amount e,
      )

  module _ (j : ℕ) (h : j < member_count n) where
    -- whether arc k serves the member
    abbrev turn : ℕ → ℕ
    turn k = pick (served n k (tallies_at n k) j) 1

    pub tally_at : (i : ℕ) → i ≤ n.arcs
        → get_or (handled n i).tallies j 0 + sum (n.arcs - i) turn ≡ sum n.arcs turn
    tally_at =
        from_last (λ i. get_or (handled n i).tallies j 0) turn (first_tally j)
        (λ i l.
        next_tally i j h
        ∙ ap (λ (tallies : List ℕ). get_or (handled n i).tallies j 0 + pick (served n (n.arcs - i) tallies j) 1)
        (sym (next_tallies i l)))

    share_at_lem : (i : ℕ) → i ≤ n.arcs
        → get_or (handled n i).shares j 0 + sum (n.arcs - i) (λ k. gift n k j) ≡ sum n.arcs (λ k. gift n k j)
    unfolding handled
    share_at_lem =
        from_last (λ i. get_or (handled n i).shares j 0) (λ k. gift n k j) (zeros (member_count n) j)
        (λ i l.
        give_shares (n.arcs - i) (handled n i) j h
        ∙ ap (λ (tallies : List ℕ). get_or (handled n i).shares j 0 + gives n (n.arcs - i) tallies j)
        (sym (next_tallies i l)))

    -- a share is the sum of the gifts of all arcs
    pub by_arc_at : get_or (by_arc n) j 0 ≡ sum n.arcs (λ k. gift n k j)
    by_arc_at =
        let e : n.arcs - n.arcs ≡ 0 = omega arith in
        omega (arith, rw e at (share_at_lem n.arcs (omega arith)))

    -- so it is the equal parts of its arcs and its tally
    pub by_arc_parts : get_or (by_arc n) j 0
        ≡ sum n.arcs (λ k. pick (users n k j) (equal_part n k)) + get_or (handled n n.arcs).tallies j 0
    by_arc_parts =
        let e : n.arcs - n.arcs ≡ 0 = omega arith in
        omega (
          arith,
          by_arc_at,
          sum_add n.arcs (λ k. pick (users n k j) (equal_part n k)) turn,
          rw e at (tally_at n.arcs (omega arith)),
        )
