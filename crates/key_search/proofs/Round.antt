-- A round keeps the state.
--
--   next_linked, next_own_key  the link of a vertex that stays open
--   next_sum, next_open        what is linked to it before and after; so it is as an open vertex is to be
--   next_rises, next_settled   the order, and the vertices that leave it
--   round_state                the state after the round
use Rattle.std.proofs.Common.{◌≡◌, ℕ, ◌+◌, ◌<◌, ◌≤◌, max, Bool, true, false, cond, not, eqb, ltb, ◌⊎◌, List, length, sym, refl, ap, ◌∙◌, subst, inl, inr, ⊎_elim, arith, ltb-true, ne_eqb, eqb-true}
use borrow.Author.Tests.{not-true}
use Rattle.basics.specs.Sum.{pick, total}
use Rattle.game.specs.Network.{Network}
use Rattle.game.specs.LevelKeys.{held, arc_key, path_key}
use Rattle.game.specs.Tree.{of_arc}
use Rattle.basics.proofs.Bools.{both, clash, and_first, and_second, pick_zero}
use Rattle.basics.proofs.Sums.{In}
use Rattle.basics.proofs.Totals.{total_cong, total_add}
use Rattle.game.proofs.LevelKeys.{vertex_at}
use Rattle.game.proofs.PathKeys.{arc_key_within}
use Rattle.key_passes.specs.declared.flags.Flag.{Flag}
use Rattle.key_passes.specs.Passes.{flag_at, is_reached, is_exact, same_flag}
use Rattle.key_passes.specs.Passes.{at, Rising, Outside, linked_sum, stays_open, is_cut, Kept}
use Rattle.key_passes.proofs.FlagTests.{differ_flags}
use Rattle.key_passes.proofs.Places.{Placed, placed_at, placed_or_outside}
use Rattle.key_passes.proofs.Filtered.{Passing, placed_filtered, filtered_placed, filtered_rises, total_filtered}
use Rattle.key_search.proofs.State.{Linked, Open, State}
use Rattle.key_search.proofs.Opened.{open_at, placed_in, link_lower, pivot_same}
use Rattle.key_search.proofs.Decided.{Decided, under, over, hit, Cut, Round, flag_tells}
use Rattle.key_search.proofs.Moved.{keys_moved, left_settled, keys_under, low_same, high_same, stays_same}

-- what v has from a vertex linked to it, x: a tells whether it is linked, d whether the link is cut, t whether it stays
-- open and b whether it is linked afterwards; y is its bound
pick_moves : (a d t b : Bool) (x y : ℕ) → (d ≡ true → b ≡ false) → (d ≡ false → b ≡ a) → (a ≡ true → d ≡ true → x ≡ y)
    → (a ≡ true → d ≡ false → t ≡ true) → pick a x ≡ pick a (pick d y) + pick t (pick b x)
pick_moves true true t b x y cut uncut same stay = rw (cut refl) (omega (arith, same refl refl, pick_zero t))
pick_moves true false t b x y cut uncut same stay = rw (uncut refl, stay refl refl) (omega arith)
pick_moves false true t b x y cut uncut same stay = rw (cut refl) (omega (arith, pick_zero t))
pick_moves false false t b x y cut uncut same stay = rw (uncut refl) (omega (arith, pick_zero t))

module _ {n : Network} {caps bounds : List ℕ} {last : ℕ} {order links lows highs rests pivots holds : List ℕ}
    {flags flags' : List Flag} {lows' highs' : List ℕ}
    (r : Round n caps bounds last order links lows highs rests pivots holds flags flags' lows' highs')
    {order' links' rests' : List ℕ} (kept : Kept order links bounds flags' lows' highs' rests order' links' rests')
  where
    abbrev bound : ℕ → ℕ
    bound = of_arc bounds

    abbrev path : ℕ → ℕ
    path = path_key n caps bound last

    abbrev stays : ℕ → Bool
    stays = stays_open flags' lows' highs'

    stays_at : (i : ℕ) → i < length order' → Passing stays order (at order' i)
    stays_at =
        subst (λ (l : List ℕ). (i : ℕ) → i < length l → Passing stays order (at l i)) (sym kept.open_are)
        (filtered_placed stays order)

    placed_next : {v : ℕ} → Passing stays order v → Placed order' v
    placed_next q = rw kept.open_are (placed_filtered stays q)

    link_by : (v : ℕ) → Placed order v → {b : Bool} → is_cut links flags' v ≡ b → at links' v ≡ cond b 0 (at links v)
    link_by v p c = rw p.is at (kept.link p.place p.within) ∙ ap (λ (b : Bool). cond b 0 (at links v)) c

    next_linked : (v : ℕ) → Passing stays order v → (at links' v ≡ 0 → ⊥) → Linked n order' links' lows' highs' v
    next_linked v q l =
        ⊎_elim (λ (c : is_cut links flags' v ≡ true). absurd (l (link_by v q.placed c))) uncut
        (both (is_cut links flags' v))
      where
        uncut : is_cut links flags' v ≡ false → Linked n order' links' lows' highs' v
        uncut c =
            let e = link_by v q.placed c in
            let d : at links v ≡ 0 → ⊥ = λ z. l (e ∙ z) in
            let up = (open_at r.before v q.placed).linked d in
            record {
              to_parent = e ∙ up.to_parent;
              to_open = rw e (placed_next record {
                placed = up.to_open;
                passes = sym (stays_same r v q.placed d c) ∙ q.passes;
              });
              same_low = rw e (low_same r v q.placed d c);
              same_high = rw e (high_same r v q.placed d c);
            }

    cut_differs : (v : ℕ) → is_cut links flags' v ≡ true → flag_at flags' v ≡ flag_at flags' (at links v) → ⊥
    cut_differs v c = differ_flags (flag_at flags' v) (flag_at flags' (at links v)) (not-true (same_flag _ _) c)

    next_own_key : (v : ℕ) → Placed order v → at links' v ≡ 0 → path v ≡ arc_key n caps bound last v
    next_own_key v p z =
        ⊎_elim
        (λ (c : is_cut links flags' v ≡ true). ((flag_tells r v p).cut (cut_differs v c)).own)
        (λ (c : is_cut links flags' v ≡ false). (open_at r.before v p).own_key (sym (link_by v p c) ∙ z))
        (both (is_cut links flags' v))

    module _ (v : ℕ) (q : Passing stays order v) where
      -- what is linked to v: a part is cut, and the others stay open with v
      linked_at : (f : ℕ → ℕ) (c : ℕ) → Placed order c → (at links c ≡ v → is_cut links flags' c ≡ true → f c ≡ bound c)
          → pick (eqb (at links c) v) (f c)
          ≡ pick (eqb (at links c) v) (pick (is_cut links flags' c) (bound c))
          + pick (stays c) (pick (eqb (at links' c) v) (f c))
      linked_at f c p same =
          pick_moves (eqb (at links c) v) (is_cut links flags' c) (stays c) (eqb (at links' c) v) (f c) (bound c)
          (λ e. ne_eqb (at links' c) v (λ z. omega (arith, link_by c p e, placed_in r.before v q.placed)))
          (λ e. ap (λ (u : ℕ). eqb u v) (link_by c p e))
          (λ e. same (eqb-true (at links c) v e))
          (λ e d.
          let z = eqb-true (at links c) v e in
          stays_same r c p (λ y. omega (arith, placed_in r.before v q.placed)) d ∙ ap stays z ∙ q.passes)

      next_sum : (f : ℕ → ℕ) → ((c : ℕ) → Placed order c → at links c ≡ v → is_cut links flags' c ≡ true → f c ≡ bound c)
          → linked_sum order links f v
          ≡ linked_sum order links (λ c. pick (is_cut links flags' c) (bound c)) v + linked_sum order' links' f v
      next_sum f same =
          let cut : ℕ → ℕ = λ c. pick (eqb (at links c) v) (pick (is_cut links flags' c) (bound c)) in
          let on : ℕ → ℕ = λ c. pick (eqb (at links' c) v) (f c) in
          total_cong (λ c. pick (eqb (at links c) v) (f c)) (λ c. cut c + pick (stays c) (on c)) order
          (λ i h. let p = placed_at order i h in linked_at f (at order i) p (same (at order i) p))
          ∙ total_add cut (λ c. pick (stays c) (on c)) order
          ∙ ap (λ (t : ℕ). total cut order + t)
          (sym (ap (total on) kept.open_are ∙ total_filtered stays on order))

      not_hit : is_exact (flag_at flags' v) ≡ false
      not_hit =
          not-true (is_exact (flag_at flags' v))
          (and_first (not (is_exact (flag_at flags' v))) (ltb (at lows' v + 1) (at highs' v)) q.passes)

      -- a link to v is cut only where v's flag is `Below`, so up to v's new high key the bound is kept
      cut_within : (c key : ℕ) → Placed order c → at links c ≡ v → is_cut links flags' c ≡ true → key < at highs' v
          → held n caps bound key c ≤ bound c
      cut_within c key p e d h = by_flag (flag_tells r v q.placed).decided
        where
          cut : Cut n caps bound last links flags' (at pivots c) c
          cut = (flag_tells r c p).cut (cut_differs c d)

          by_flag : Decided n caps bound last flags' (at pivots v) v → held n caps bound key c ≤ bound c
          by_flag (under f l) =
              let z : at links c ≡ 0 → ⊥ = λ y. omega (arith, placed_in r.before v q.placed) in
              arc_key_within n caps bound last r.grows c (placed_in r.before c p) key
              (omega (
                arith,
                cut.reached,
                keys_under r v q.placed f,
                pivot_same r.before r.chosen c p z,
                ap (at pivots) e,
              ))
          by_flag (over f l) = absurd (clash (ap is_reached (ap (flag_at flags') e ∙ f)) cut.link_flag)
          by_flag (hit f l same) = absurd (clash (ap is_exact f) not_hit)

      rest_is : at rests' v ≡ at rests v + linked_sum order links (λ c. pick (is_cut links flags' c) (bound c)) v
      rest_is = rw q.placed.is at (kept.rest q.placed.place q.placed.within)

      next_open : Open n caps bound last order' links' lows' highs' rests' v
      next_open =
          let was = open_at r.before v q.placed in
          let m = keys_moved r v q.placed in
          record {
            low = m.low_le;
            high = m.high_more;
            within_last = omega arith;
            wide = ltb-true (at lows' v + 1) (at highs' v)
                (and_second (not (is_exact (flag_at flags' v))) (ltb (at lows' v + 1) (at highs' v)) q.passes);
            linked = next_linked v q;
            own_key = next_own_key v q.placed;
            balance = λ key l h.
                omega (
                  arith,
                  was.balance key (omega arith) (omega arith),
                  rest_is,
                  next_sum (λ c. max (bound c) (held n caps bound key c))
                      (λ c p e d. omega (arith, cut_within c key p e d h)),
                );
            room = omega (arith, rest_is, next_sum bound (λ c p e d. refl));
          }

    next_lower : (v : ℕ) → Placed order v → at links' v < v
    next_lower v p =
        ⊎_elim
        (λ (c : is_cut links flags' v ≡ true). omega (arith, link_by v p c, placed_in r.before v p))
        (λ (c : is_cut links flags' v ≡ false). omega (arith, link_by v p c, link_lower r.before v p))
        (both (is_cut links flags' v))

    next_rises : Rising n.arcs order' links'
    next_rises =
        record {
          first = λ i h. (placed_in r.before (at order' i) (stays_at i h).placed).low;
          last = λ i h. (placed_in r.before (at order' i) (stays_at i h).placed).high;
          rising =
              subst (λ (l : List ℕ). (i j : ℕ) → i < j → j < length l → at l i < at l j) (sym kept.open_are)
              (filtered_rises stays order r.before.order_rises.rising);
          lower = λ i h. next_lower (at order' i) (stays_at i h).placed;
        }

    next_settled : (v : ℕ) → In n.arcs v
        → Placed order' v ⊎ (vertex_at n caps (at lows' v) v ≡ vertex_at n caps (path v) v)
    next_settled v i = ⊎_elim placed outside (placed_or_outside order v)
      where
        placed : Placed order v → Placed order' v ⊎ (vertex_at n caps (at lows' v) v ≡ vertex_at n caps (path v) v)
        placed p =
            ⊎_elim
            (λ (e : stays v ≡ true). inl (placed_next record { placed = p; passes = e }))
            (λ (e : stays v ≡ false). inr (left_settled r v p e))
            (both (stays v))

        outside : Outside order v → Placed order' v ⊎ (vertex_at n caps (at lows' v) v ≡ vertex_at n caps (path v) v)
        outside o =
            ⊎_elim
            (λ (p : Placed order v). absurd (o p.place p.within p.is))
            (λ (e : vertex_at n caps (at lows v) v ≡ vertex_at n caps (path v) v).
            inr (rw (r.settled.lows_kept v o) e))
            (r.before.open_or_settled v i)

    pub round_state : State n caps (of_arc bounds) last order' links' lows' highs' rests'
    round_state =
        record {
          order_rises = next_rises;
          opened = λ i h. next_open (at order' i) (stays_at i h);
          open_or_settled = next_settled;
        }
