-- The first state, what the arcs' users have at the pivots of a state, and what the last state tells.
--
--   held_adds               what the arcs' users have at the pivots adds up along the links
--   caps_most               their caps add up to at most the greatest total
--   start_state, end_share  the first state; the shares from the last one
use Rattle.std.proofs.Common.{◌≡◌, ℕ, zero, suc, ◌+◌, ◌/◌, ◌%◌, ◌<◌, ◌≤◌, max, Bool, true, false, eqb, ltb, List, [], length, get_or, sym, refl, ap, ◌∙◌, inl, ⊎_elim, arith, eqb-true}
use Rattle.basics.specs.Sum.{pick, list, total}
use Rattle.game.specs.Network.{Network, number, member_count, sum_below, at_or_below}
use Rattle.game.specs.Tree.{of_arc}
use Rattle.game.specs.Level.{level}
use Rattle.game.specs.Inward.{of_children, amount_of}
use Rattle.game.specs.LevelKeys.{at_key, held, path_key}
use Rattle.limits.specs.Limits.{most_arcs, most_share}
use Rattle.limits.specs.Inner.{most_total}
use Rattle.basics.proofs.Bools.{pick_same, pick_yes, pick_le, smaller_is}
use Rattle.basics.proofs.Sums.{In, sum_cong, sum_bound}
use Rattle.basics.proofs.Totals.{total_cong, total_list}
use Rattle.basics.proofs.Lists.{list_length, list_at}
use Rattle.game.proofs.Below.{Rooted, child_after}
use Rattle.game.proofs.LevelList.{view}
use Rattle.game.proofs.LevelKeys.{vertex_at, held_is}
use Rattle.game.proofs.PathKeys.{path_key_le, path_key_source, path_key_step}
use Rattle.game.proofs.LevelByKeys.{level_by_vertex}
use Rattle.key_passes.specs.Passes.{at, share_at, Rising, linked_sum, Adds, own_at, Chosen}
use Rattle.key_passes.proofs.Places.{Placed, placed_at}
use Rattle.key_search.proofs.State.{Open, State}
use Rattle.key_search.proofs.Opened.{open_at, placed_in, pivot_between}

-- what a vertex has at a key, by lists that have its cap, 0 for a vertex that is no member, and a member's number
share_of : (b : Bool) (cap own number own_number key : ℕ) → cap ≡ pick b own → (b ≡ true → number ≡ own_number)
    → share_at cap number key ≡ pick b (share_at own own_number key)
share_of true cap own number own_number key e f = rw (e, f refl)
share_of false cap own number own_number key e f =
    rw e (omega (arith, smaller_is 0 (key / 1024 + pick (ltb number (key % 1024)) 1)))

module _ {n : Network} {caps : List ℕ} (bounds : List ℕ) {last : ℕ} {order links lows highs rests pivots : List ℕ}
    (s : State n caps (of_arc bounds) last order links lows highs rests) (chosen : Chosen order links lows highs pivots)
  where
    -- linked vertices try the same key
    linked_pivots : (v : ℕ) → In n.arcs v
        → linked_sum order links (λ c. max (of_arc bounds c) (held n caps (of_arc bounds) (at pivots v) c)) v
        ≡ linked_sum order links (λ c. max (of_arc bounds c) (held n caps (of_arc bounds) (at pivots c) c)) v
    linked_pivots v i =
        total_cong (λ c. pick (eqb (at links c) v) (max (of_arc bounds c) (held n caps (of_arc bounds) (at pivots v) c)))
        (λ c. pick (eqb (at links c) v) (max (of_arc bounds c) (held n caps (of_arc bounds) (at pivots c) c))) order
        (λ j h.
        pick_same (eqb (at links (at order j)) v)
        (λ e.
        let to_v = eqb-true (at links (at order j)) v e in
        let same = chosen.same j h (λ z. omega arith) in
        ap (λ (key : ℕ). max (of_arc bounds (at order j)) (held n caps (of_arc bounds) key (at order j)))
        (sym (same ∙ ap (at pivots) to_v))))

    pub held_adds : (caps_at numbers : List ℕ)
        → ((v : ℕ) → In n.arcs v → at caps_at v ≡ pick (n.member v) (get_or caps (number n v) 0))
        → ((v : ℕ) → In n.arcs v → n.member v ≡ true → at numbers v ≡ number n v)
        → Adds order links bounds (own_at caps_at numbers rests pivots) (λ v. held n caps (of_arc bounds) (at pivots v) v)
    held_adds caps_at numbers caps_are numbers_are =
        record {
          is = λ i h.
              let v = at order i in
              let p = placed_at order i h in
              let inside = placed_in s v p in
              omega (
                arith,
                (open_at s v p).balance (at pivots v) (pivot_between s chosen v p).0 (pivot_between s chosen v p).1,
                linked_pivots v inside,
                share_of (n.member v) (at caps_at v) (get_or caps (number n v) 0) (at numbers v) (number n v)
                    (at pivots v) (caps_are v inside) (numbers_are v inside),
              );
        }

-- what the caps of an arc's users add up to
pub caps_most : (n : Network) (caps : List ℕ) → ((j : ℕ) → get_or caps j 0 ≤ most_share) → n.arcs ≤ most_arcs → (k : ℕ)
    → sum_below n (view n caps) k ≤ most_total
unfolding sum_below
caps_most n caps limited few k =
    omega (
      arith,
      sum_bound n.arcs most_share {f = λ v. pick (at_or_below n k v) (view n caps v)}
          (λ v i.
          omega (
            arith,
            pick_le (at_or_below n k v) (view n caps v),
            pick_le (n.member v) (get_or caps (number n v) 0),
            limited (number n v),
          )),
    )

-- the lists before the first round: every vertex is open and linked to its parent
pub record Begun (n : Network) (last : ℕ) (order links lows highs rests : List ℕ) : Type 0 where
  pub all : order ≡ list n.arcs (λ v. v)
  pub link : (v : ℕ) → In n.arcs v → at links v ≡ n.parent v
  pub low : (v : ℕ) → In n.arcs v → at lows v ≡ 0
  pub high : (v : ℕ) → In n.arcs v → at highs v ≡ last + 1
  pub rest : (v : ℕ) → In n.arcs v → at rests v ≡ 0

module _ {n : Network} {last : ℕ} {order links lows highs rests : List ℕ}
    (b : Begun n last order links lows highs rests) where
  all_length : length order ≡ n.arcs
  all_length = ap length b.all ∙ list_length (λ v. v) n.arcs

  all_at : (i : ℕ) → i < length order → at order i ≡ suc i
  all_at i h = ap (λ (l : List ℕ). at l i) b.all ∙ list_at (λ v. v) 0 n.arcs i (omega (arith, all_length))

  all_placed : (v : ℕ) → In n.arcs v → Placed order v
  all_placed zero i = absurd (omega arith)
  all_placed (suc j) i =
      let h : j < length order = omega (arith, all_length) in record { place = j; within = h; is = all_at j h }

  all_linked : (f : ℕ → ℕ) (v : ℕ) → linked_sum order links f v ≡ of_children n f v
  all_linked f v =
      ap (total (λ c. pick (eqb (at links c) v) (f c))) b.all
      ∙ total_list (λ c. pick (eqb (at links c) v) (f c)) n.arcs
      ∙ sum_cong n.arcs (λ c i. ap (λ (u : ℕ). pick (eqb u v) (f c)) (b.link c i))

  module _ (rooted : Rooted n) where
    link_less : (v : ℕ) → In n.arcs v → at links v < v
    link_less v i = omega (arith, b.link v i, child_after n rooted (n.parent v) v i refl)

    all_rise : Rising n.arcs order links
    all_rise =
        record {
          first = λ i h. omega (arith, all_at i h);
          last = λ i h. omega (arith, all_at i h, all_length);
          rising = λ i j l h. omega (arith, all_at i (omega arith), all_at j h);
          lower = λ i h. link_less (at order i) (omega (arith, all_at i h, all_length));
        }

    module _ {caps : List ℕ} {bound : ℕ → ℕ} (grows : (k : ℕ) → In n.arcs k → of_children n bound k ≤ bound k)
        (some : 0 < last) where
      start_open : (v : ℕ) → In n.arcs v → Open n caps bound last order links lows highs rests v
      start_open v i =
          record {
            low = omega (arith, b.low v i);
            high = omega (arith, b.high v i, path_key_le n caps bound last v);
            within_last = omega (arith, b.high v i);
            wide = omega (arith, b.low v i, b.high v i);
            linked = λ l.
                let up : In n.arcs (at links v) = omega (arith, link_less v i) in
                record {
                  to_parent = b.link v i;
                  to_open = all_placed (at links v) up;
                  same_low = omega (arith, b.low v i, b.low (at links v) up);
                  same_high = omega (arith, b.high v i, b.high (at links v) up);
                };
            own_key = λ z.
                omega (
                  arith,
                  path_key_step n caps bound last rooted v i,
                  ap (path_key n caps bound last) (sym (b.link v i) ∙ z),
                  path_key_source n caps bound last rooted,
                );
            balance = λ key l h.
                omega (
                  arith,
                  b.rest v i,
                  held_is n caps bound rooted key v i,
                  all_linked (λ c. max (bound c) (held n caps bound key c)) v,
                );
            room = omega (arith, b.rest v i, grows v i, all_linked bound v);
          }

      pub start_state : State n caps bound last order links lows highs rests
      start_state =
          record {
            order_rises = all_rise;
            opened = λ i h. start_open (at order i) (omega (arith, all_at i h, all_length));
            open_or_settled = λ v i. inl (all_placed v i);
          }

module _ {n : Network} {caps : List ℕ} {bound : ℕ → ℕ} {last : ℕ} {order links lows highs rests : List ℕ}
    (rooted : Rooted n) (few : member_count n ≤ 1023)
    (grows : (k : ℕ) → In n.arcs k → of_children n bound k ≤ bound k)
    (enough : (k : ℕ) → In n.arcs k → bound k ≤ held n caps bound last k)
    (s : State n caps bound last order links lows highs rests) (none : order ≡ []) where
  -- where no vertex is open, a member's share is the one at its low key
  pub end_share : (v : ℕ) → In n.arcs v → n.member v ≡ true
      → at_key caps (at lows v) (number n v) ≡ get_or (level n caps (amount_of n bound)) (number n v) 0
  end_share v i m =
      ⊎_elim
      (λ (p : Placed order v). absurd (omega (arith, ap length none)))
      (λ (e : vertex_at n caps (at lows v) v ≡ vertex_at n caps (path_key n caps bound last v) v).
      omega (
        arith,
        level_by_vertex n rooted caps bound few grows last enough v i m,
        pick_yes (at_key caps (at lows v) (number n v)) m,
        pick_yes (at_key caps (path_key n caps bound last v) (number n v)) m,
      ))
      (s.open_or_settled v i)
