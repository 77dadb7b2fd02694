-- The pass that keeps the open vertices: where it stands before the i-th place of the order, and one turn.
use Prim.Native.Nat.{ℕ, ◌+◌, ◌-◌, ◌≤◌, ◌<◌}
use mathlib.Core.Path.{◌≡◌, refl, sym, ap, ◌∙◌}
use mathlib.Core.Bool.{Bool, true, false, cond, not, ◌&&◌}
use mathlib.Core.Logic.{⊎_elim}
use mathlib.Core.List.{List, [], ◌∷◌, ◌++◌, append-nil}
use native.Mathlib.Decide.{ℕ_discrete}
use native.Mathlib.Nat.{le_refl, add-zero}
use native.Mathlib.Numerals.{add-one}
use native.Mathlib.Omega.{arith}
use borrow.Author.Count.{below_none, below_more}
use borrow.Author.Tests.{eq-eqb, ne_eqb, lt-ltb, le-ltb}
use lib.ListN.{length, get_or, set, take, length-set}
use lib.Seq.{take_all, take-suc-set, get_or-set_same, get_or-set_other}
use Rattle.std.proofs.lemmas.List.{set-get_or}
use lib.Dec.{eqb, ltb}
use Rattle.basics.specs.Sum.{pick, total}
use Rattle.basics.proofs.Bools.{both, pick_yes, pick_no, pick_le, pick_both_le}
use Rattle.basics.proofs.Totals.{total_parts, total_next, total_mono}
use Rattle.limits.specs.Limits.{most_arcs}
use Rattle.limits.specs.Inner.{most_total}
use Rattle.game.specs.Tree.{of_arc}
use Rattle.game.proofs.ArcEntries.{arc_entry}
use Rattle.key_passes.specs.declared.flags.Flag.{Flag}
use Rattle.key_passes.specs.Passes.{at, flag_at, same_flag, is_exact, Rising, Outside, stays_open, filtered, is_cut}
use Rattle.key_passes.specs.Passes.{linked_sum, Kept}
use Rattle.key_passes.proofs.Places.{Placed, placed_or_outside, rising_at, written, lower_kept}
use Rattle.key_passes.proofs.Filtered.{filtered_next}

-- an entry is written at the front, or nothing
front_next : (b : Bool) (l : List ℕ) (next v : ℕ) → next < length l
    → take (next + pick b 1) (cond b (set l next v) l) ≡ take next l ++ cond b (v ∷ []) []
front_next true l next v h = rw add-one (take-suc-set l next v h)
front_next false l next v h = rw (add-zero, append-nil) refl

front_sized : (b : Bool) (l : List ℕ) (next v : ℕ) → length (cond b (set l next v) l) ≡ length l
front_sized true l next v = length-set l next v
front_sized false l next v = refl

behind_front : (b : Bool) (l : List ℕ) (next v p : ℕ) → next < p → at (cond b (set l next v) l) p ≡ at l p
behind_front true l next v p h = get_or-set_other l next p v 0 (λ e. absurd (omega arith))
behind_front false l next v p h = refl

-- what is added at the link: the bound where the two flags differ, and nothing at the source
abbrev added : Bool → ℕ → ℕ → ℕ
added same link bound = cond (eqb link 0) 0 (pick (not same) bound)

pub added_bound : (same : Bool) (link bound : ℕ) → same ≡ false → 0 < link → bound ≡ added same link bound
added_bound same link bound e h = rw (e, ne_eqb link 0 (λ z. omega arith)) refl

added_source : (same : Bool) (link bound : ℕ) → link ≤ 0 → added same link bound ≡ 0
added_source same link bound h = rw (eq-eqb link 0 (omega arith)) refl

added_same : (same : Bool) (link bound : ℕ) → same ≡ true → added same link bound ≡ 0
added_same same link bound e =
    rw e (⊎_elim (λ (z : eqb link 0 ≡ true). rw z refl) (λ (z : eqb link 0 ≡ false). rw z refl) (both (eqb link 0)))

-- the lists after vertex v is passed: its link, and what was added at it
pub record Passed (same : Bool) (links rests : List ℕ) (v link bound : ℕ) (links' rests' : List ℕ) : Type 0 where
  pub link_is : links' ≡ set links v (cond (not same) 0 link)
  pub rest_is : rests' ≡ set rests link (at rests link + added same link bound)

nothing_added : (rests : List ℕ) (link x : ℕ) {rests' : List ℕ} → x ≡ 0 → rests' ≡ rests
    → rests' ≡ set rests link (at rests link + x)
nothing_added rests link x e r = rw (e, add-zero, set-get_or rests link 0) r

module _ {same : Bool} {links rests : List ℕ} {v link bound : ℕ} {links' rests' : List ℕ} where
  pub passed_bound : same ≡ false → 0 < link → links' ≡ set links v 0 → rests' ≡ set rests link (at rests link + bound)
      → Passed same links rests v link bound links' rests'
  passed_bound e h l r =
      record {
        link_is = rw e l;
        rest_is = r ∙ ap (λ (x : ℕ). set rests link (at rests link + x)) (added_bound same link bound e h);
      }

  pub passed_source : same ≡ false → link ≤ 0 → links' ≡ set links v 0 → rests' ≡ rests
      → Passed same links rests v link bound links' rests'
  passed_source e h l r =
      record { link_is = rw e l; rest_is = nothing_added rests link _ (added_source same link bound h) r }

  pub passed_same : same ≡ true → link ≡ at links v → links' ≡ links → rests' ≡ rests
      → Passed same links rests v link bound links' rests'
  passed_same e is l r =
      record {
        link_is = rw (e, is, set-get_or links v 0) l;
        rest_is = nothing_added rests link _ (added_same same link bound e) r;
      }

-- the order after vertex v is passed: it is written at the front where it stays open
pub record Fronted (stays : Bool) (order : List ℕ) (next v : ℕ) (order' : List ℕ) (next' : ℕ) : Type 0 where
  pub order_is : order' ≡ cond stays (set order next v) order
  pub next_is : next' ≡ next + pick stays 1

module _ (flag : Flag) (low high : ℕ) {order : List ℕ} {next v : ℕ} {order' : List ℕ} {next' : ℕ} where
  pub wide_stays : is_exact flag ≡ false → 1 < high - low → order' ≡ set order next v → next' ≡ next + 1
      → Fronted (not (is_exact flag) && ltb (low + 1) high) order next v order' next'
  wide_stays e h o n =
      let l = lt-ltb (low + 1) high (omega arith) in
      record { order_is = rw (e, l) o; next_is = rw (e, l) n }

  pub narrow_leaves : is_exact flag ≡ false → high - low ≤ 1 → order' ≡ order → next' ≡ next
      → Fronted (not (is_exact flag) && ltb (low + 1) high) order next v order' next'
  narrow_leaves e h o n =
      let l = le-ltb (low + 1) high (omega arith) in
      record { order_is = rw (e, l) o; next_is = rw (e, l, add-zero) n }

  pub exact_leaves : is_exact flag ≡ true → order' ≡ order → next' ≡ next
      → Fronted (not (is_exact flag) && ltb (low + 1) high) order next v order' next'
  exact_leaves e o n = record { order_is = rw e o; next_is = rw (e, add-zero) n }

module _ (order links bounds : List ℕ) (flags : List Flag) (lows highs rests : List ℕ) where
  -- what a vertex adds at its link
  abbrev cut_bound : ℕ → ℕ
  cut_bound c = pick (is_cut links flags c) (of_arc bounds c)

  -- the first i vertices are passed, and those of them that stay open are the first `next` entries
  pub record Keeping (order' links' rests' : List ℕ) (next i : ℕ) : Type 0 where
    pub within : i ≤ length order
    pub order_sized : length order' ≡ length order
    pub links_sized : length links' ≡ 1024
    pub rests_sized : length rests' ≡ 1024
    pub front : next ≤ i
    pub open_are : take next order' ≡ filtered (stays_open flags lows highs) (take i order)
    pub order_ahead : (p : ℕ) → i ≤ p → at order' p ≡ at order p
    pub link : (p : ℕ) → p < i
        → at links' (at order p) ≡ cond (is_cut links flags (at order p)) 0 (at links (at order p))
    pub link_ahead : (p : ℕ) → i ≤ p → p < length order → at links' (at order p) ≡ at links (at order p)
    pub rest : (p : ℕ) → p < length order
        → at rests' (at order p) ≡ at rests (at order p) + linked_sum (take i order) links cut_bound (at order p)

  pub keeping_start : length links ≡ 1024 → length rests ≡ 1024 → Keeping order links rests 0 0
  unfolding filtered total
  keeping_start l r =
      record {
        within = omega arith;
        order_sized = refl;
        links_sized = l;
        rests_sized = r;
        front = omega arith;
        open_are = refl;
        order_ahead = λ p h. refl;
        link = below_none _;
        link_ahead = λ p h b. refl;
        rest = λ p h. omega arith;
      }

  module _ {order' links' rests' : List ℕ} {next i : ℕ} (s : Keeping order' links' rests' next i) where
    pub keeping_end : length order ≤ i
        → Kept order links bounds flags lows highs rests (take next order') links' rests'
    keeping_end h =
        let all = take_all i order h in
        record {
          open_are = s.open_are ∙ ap (filtered (stays_open flags lows highs)) all;
          link = λ p b. s.link p (omega arith);
          rest =
              λ p b. s.rest p b
              ∙ ap (λ (l : List ℕ). at rests (at order p) + linked_sum l links cut_bound (at order p)) all;
        }

    module _ (few : length bounds ≤ most_arcs) (r : Rising (length bounds) order links)
        (in_order : i < length order) where
      -- the turn's vertex and its link are still those at entry
      vertex_is : at order' i ≡ at order i
      vertex_is = s.order_ahead i (le_refl i)

      link_is : at links' (at order i) ≡ at links (at order i)
      link_is = s.link_ahead i (le_refl i) in_order

      -- what is written at the link
      rest_here : (now : ℕ) (w : ℕ) → w ≡ at links (at order i) → at (set rests' (at links (at order i)) now) w ≡ now
      rest_here now w e =
          rw e
          (get_or-set_same rests' (at links (at order i)) now 0
          (omega (arith, s.rests_sized, r.lower i in_order, r.last i in_order)))

      module _ (x : ℕ) (x_is : x ≡ cond (eqb (at links (at order i)) 0) 0 (cut_bound (at order i))) where
        rest_on : (p : ℕ) → p < length order
            → at (set rests' (at links (at order i)) (at rests' (at links (at order i)) + x)) (at order p)
            ≡ at rests (at order p) + linked_sum (take (i + 1) order) links cut_bound (at order p)
        rest_on p b =
            let v = at order i in
            let w = at order p in
            let now = at rests' (at links v) + x in
            let more = total_next (λ c. pick (eqb (at links c) w) (cut_bound c)) order i in_order in
            elim (ℕ_discrete w (at links v)) [
              | yes d ↦
                  let cut : x ≡ cut_bound v = rw (ne_eqb (at links v) 0 (λ z. omega (arith, r.first p b))) at x_is in
                  omega (
                    arith,
                    rest_here now w d,
                    more,
                    s.rest p b,
                    ap (at rests') d,
                    pick_yes (cut_bound v) (eq-eqb (at links v) w (sym d)),
                  )
              | no d ↦
                  omega (
                    arith,
                    get_or-set_other rests' (at links v) w now 0 d,
                    more,
                    s.rest p b,
                    pick_no (cut_bound v) (ne_eqb (at links v) w (λ z. d (sym z))),
                  )
            ]

        turn_on : let v = at order i in
            let stays = stays_open flags lows highs v in
            Keeping (cond stays (set order' next v) order')
            (set links' v (cond (is_cut links flags v) 0 (at links v)))
            (set rests' (at links v) (at rests' (at links v) + x)) (next + pick stays 1) (i + 1)
        turn_on =
            let v = at order i in
            let stays = stays_open flags lows highs in
            let link = cond (is_cut links flags v) 0 (at links v) in
            record {
              within = omega (arith, in_order);
              order_sized = front_sized (stays v) order' next v ∙ s.order_sized;
              links_sized = length-set links' v link ∙ s.links_sized;
              rests_sized = length-set rests' (at links v) (at rests' (at links v) + x) ∙ s.rests_sized;
              front = omega (arith, s.front, pick_le (stays v) 1);
              open_are =
                  front_next (stays v) order' next v (omega (arith, s.front))
                  ∙ ap (λ (l : List ℕ). l ++ cond (stays v) (v ∷ []) []) s.open_are
                  ∙ sym (filtered_next stays order i in_order);
              order_ahead =
                  λ p b. behind_front (stays v) order' next v p (omega (arith, s.front))
                  ∙ s.order_ahead p (omega arith);
              link =
                  below_more _ i
                  (λ p b.
                  lower_kept order i links' link 0 (at order p) (r.rising p i b in_order) ∙ s.link p b)
                  (written r i in_order few links' link 0 s.links_sized);
              link_ahead =
                  λ p b l.
                  get_or-set_other links' v (at order p) link 0
                  (λ e. absurd (omega (arith, r.rising i p (omega arith) l)))
                  ∙ s.link_ahead p (omega arith) l;
              rest = rest_on;
            }

        -- the rest of a link fits that is not the source: it stands in the order
        sum_fits : ((p : ℕ) → p < length order
            → at rests (at order p) + linked_sum order links (of_arc bounds) (at order p) ≤ most_total)
            → (Outside order (at links (at order i)) → at links (at order i) ≡ 0)
            → 0 < at links (at order i)
            → at rests' (at links (at order i)) + x ≤ most_total
        sum_fits room placed some =
            let u = at links (at order i) in
            ⊎_elim
            (λ (q : Placed order u).
            let w = at order q.place in
            omega (
              arith,
              rest_here (at rests' u + x) w q.is,
              rest_on q.place q.within,
              total_parts (λ c. pick (eqb (at links c) w) (cut_bound c)) order (i + 1) 0,
              total_mono (λ c. pick_both_le (eqb (at links c) w) (pick_le (is_cut links flags c) (of_arc bounds c)))
                  order,
              room q.place q.within,
            ))
            (λ (o : Outside order u). let none = placed o in absurd (omega arith))
            (placed_or_outside order u)

      -- v is the turn's vertex and p its link, as they are read, and `more` is added at the link
      module _ {v p more : ℕ} (v_is : v ≡ at order' i) (p_is : p ≡ at links' v)
          (more_is : more ≡ added (same_flag (flag_at flags v) (flag_at flags p)) p (get_or bounds (v - 1) 0)) where
        v_here : v ≡ at order i
        v_here = v_is ∙ vertex_is

        p_here : p ≡ at links (at order i)
        p_here = rw v_here at p_is ∙ link_is

        more_here : more ≡ cond (eqb (at links (at order i)) 0) 0 (cut_bound (at order i))
        more_here = rw (p_here, v_here, arc_entry bounds (at order i) (r.first i in_order)) at more_is

        keeping_by : {order'' links'' rests'' : List ℕ} {next' : ℕ}
            → order'' ≡ cond (stays_open flags lows highs v) (set order' next v) order'
            → next' ≡ next + pick (stays_open flags lows highs v) 1
            → links'' ≡ set links' v (cond (not (same_flag (flag_at flags v) (flag_at flags p))) 0 p)
            → rests'' ≡ set rests' p (at rests' p + more)
            → Keeping order'' links'' rests'' next' (i + 1)
        keeping_by o n l g = rw (o, n, l, g, p_here, v_here) (turn_on more more_here)

        pub keeping_fits : ((q : ℕ) → q < length order
            → at rests (at order q) + linked_sum order links (of_arc bounds) (at order q) ≤ most_total)
            → ((q : ℕ) → q < length order → Outside order (at links (at order q)) → at links (at order q) ≡ 0)
            → 0 < p
            → at rests' p + more ≤ most_total
        keeping_fits room placed some = rw p_here (sum_fits more more_here room (placed i in_order) (rw p_here at some))

      module _ {v p : ℕ} (v_is : v ≡ at order' i) (p_is : p ≡ at links' v) where
        pub keeping_on : {order'' links'' rests'' : List ℕ} {next' : ℕ}
            → Passed (same_flag (flag_at flags v) (flag_at flags p)) links' rests' v p (get_or bounds (v - 1) 0) links''
            rests''
            → Fronted (stays_open flags lows highs v) order' next (at order' i) order'' next'
            → Keeping order'' links'' rests'' next' (i + 1)
        keeping_on passed fronted =
            keeping_by v_is p_is refl (rw (← v_is) at fronted.order_is) fronted.next_is passed.link_is passed.rest_is

    -- the turn's vertex and its link, as they are read
    pub keeping_here : length bounds ≤ most_arcs → Rising (length bounds) order links → i < length order'
        → let v = at order' i in (0 < v) × (v ≤ length bounds) × (at links' v < v)
    keeping_here few r h =
        let in_order : i < length order = omega (arith, s.order_sized) in
        rw (vertex_is few r in_order, link_is few r in_order) (rising_at r i in_order)
