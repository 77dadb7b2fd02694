-- The pass that adds up what the users of each open arc have at its pivot, from the last vertex to the first.
--
--   evaluating_start, evaluating_on                   at entry, and after one turn
--   evaluating_end, cleared_end                       after the last turn
--   evaluating_met, evaluating_fits, linked_fits      the sum at the turn's vertex, and that the sums fit
use Prim.Native.Nat.{ℕ, zero, suc, ◌+◌, ◌*◌, ◌-◌, ◌≤◌, ◌<◌, max}
use mathlib.Core.Path.{◌≡◌, sym, ap, ◌∙◌}
use mathlib.Core.Bool.{false}
use mathlib.Core.Logic.{⊎_elim}
use mathlib.Core.List.{List}
use native.Mathlib.Decide.{ℕ_discrete, dec_lt}
use native.Mathlib.Omega.{arith}
use borrow.Author.Tests.{eq-eqb, ne_eqb}
use lib.ListN.{length, get_or, set, drop, length-set}
use lib.Seq.{get_or-set_same, get_or-set_other}
use lib.Dec.{eqb}
use Rattle.basics.specs.Sum.{pick, total}
use Rattle.basics.proofs.Bools.{pick_yes, pick_no, pick_le}
use Rattle.basics.proofs.Totals.{total_parts, total_first, total_none, total_drop}
use Rattle.game.specs.Tree.{of_arc}
use Rattle.game.proofs.ArcEntries.{arc_entry}
use Rattle.limits.specs.Limits.{most_arcs}
use Rattle.limits.specs.Inner.{most_total}
use Rattle.key_passes.specs.Passes.{at, share_at, Rising, Outside, linked_sum, Adds, Addable, own_at, Evaluated}
use Rattle.key_passes.proofs.Places.{Placed, placed_or_outside}

-- the order has at most m vertices
module _ (m : ℕ) (order links : List ℕ) (rises : Rising m order links) where
  past_place : (i : ℕ) → i < length order → i < at order i
  past_place zero h = rises.first 0 h
  past_place (suc i) h = omega (arith, past_place i (omega arith), rises.rising i (suc i) (omega arith) h)

  order_few : length order ≤ m
  order_few =
      elim (dec_lt 0 (length order)) [
        | yes h ↦
            let i = length order - 1 in
            omega (arith, past_place i (omega arith), rises.last i (omega arith))
        | no h ↦ omega arith
      ]

module _ (order links bounds : List ℕ) (own : ℕ → ℕ) where
  -- what a vertex c adds at u
  abbrev adding : (ℕ → ℕ) → ℕ → ℕ → ℕ
  adding value u = λ c. pick (eqb (at links c) u) (max (of_arc bounds c) (value c))

  -- the vertices at places i and on have their values, those before the sums of what is linked to them of these
  pub record Valued (value : ℕ → ℕ) (sums held : List ℕ) (i : ℕ) : Type 0 where
    pub done : (p : ℕ) → i ≤ p → p < length order → at held (at order p) ≡ value (at order p)
    pub waiting : (p : ℕ) → p < i
        → at sums (at order p) ≡ linked_sum (drop i order) links (λ c. max (of_arc bounds c) (value c)) (at order p)

  -- with the vertices at places 0 to i - 1 still to come
  pub record Evaluating (sums held : List ℕ) (i : ℕ) : Type 0 where
    pub sums_sized : length sums ≡ 1024
    pub held_sized : length held ≡ 1024
    pub within : i ≤ length order
    pub valued : (value : ℕ → ℕ) → Adds order links bounds own value → Valued value sums held i
    pub cleared : (p : ℕ) → i ≤ p → p < length order → at sums (at order p) ≡ 0
    pub source : at sums 0 + i * most_total ≤ length order * most_total

  pub evaluating_start : (sums held : List ℕ) → length sums ≡ 1024 → length held ≡ 1024
      → ((p : ℕ) → p < length order → at sums (at order p) ≡ 0) → at sums 0 ≡ 0
      → Evaluating sums held (length order)
  evaluating_start sums held s h clear source =
      record {
        sums_sized = s;
        held_sized = h;
        within = omega arith;
        valued = λ value adds. record {
          done = λ p lo hi. absurd (omega arith);
          waiting = λ p hi. clear p hi ∙ sym (total_none _ order (length order) (omega arith));
        };
        cleared = λ p lo hi. clear p hi;
        source = omega arith;
      }

  pub evaluating_end : {sums held : List ℕ} {i : ℕ} → i ≡ 0 → Evaluating sums held i
      → Evaluated order links bounds own held
  evaluating_end e v = record { is = λ value adds p h. (v.valued value adds).done p (omega arith) h }

  -- what is asked of the lists; a link that is no vertex of the order is 0
  pub record Ready : Type 0 where
    pub few : length bounds ≤ most_arcs
    pub rises : Rising (length bounds) order links
    pub addable : Addable order links bounds own
    pub closed : (i : ℕ) → i < length order → Outside order (at links (at order i)) → at links (at order i) ≡ 0

  -- the source's sum is put back to 0
  pub cleared_end : Ready → {sums held : List ℕ} {i : ℕ} → i ≡ 0 → Evaluating sums held i
      → (p : ℕ) → p < length order → at (set sums 0 0) (at order p) ≡ 0
  cleared_end ready {sums} e turn p h =
      get_or-set_other sums 0 (at order p) 0 0 (λ z. omega (arith, ready.rises.first p h))
      ∙ turn.cleared p (omega arith) h

  -- one turn, at the vertex at place j
  module _ (ready : Ready) (i j : ℕ) (next : i ≡ suc j) {sums held : List ℕ} (turn : Evaluating sums held i) where
    abbrev v : ℕ
    v = at order j

    here : j < length order
    here = omega (arith, turn.within)

    later : (p : ℕ) → j < p → p < length order → v < at order p
    later = ready.rises.rising j

    earlier : (p : ℕ) → p < j → at order p < v
    earlier p h = ready.rises.rising p j h here

    pub place_fits : v < 1024
    place_fits = omega (arith, ready.rises.last j here, ready.few)

    pub link_lower : at links v < v
    link_lower = ready.rises.lower j here

    -- the vertex's sum is taken
    abbrev taken : List ℕ
    taken = set sums v 0

    sized : length taken ≡ 1024
    sized = length-set sums v 0 ∙ turn.sums_sized

    pub link_within : at links v < length taken
    link_within = omega (arith, sized, link_lower, place_fits)

    -- all that is linked to the vertex has been met
    evaluating_met : (value : ℕ → ℕ) → Adds order links bounds own value → at sums v + own v ≡ value v
    evaluating_met value adds =
        omega (
          arith,
          (turn.valued value adds).waiting j (omega arith),
          total_drop (adding value v) order i (λ p a b. pick_no _ (front p a b)),
          adds.is j here,
        )
      where
        front : (p : ℕ) → p < i → p < length order → eqb (at links (at order p)) v ≡ false
        front p a b =
            ne_eqb (at links (at order p)) v (λ e. elim (ℕ_discrete p j) [
              | yes d ↦ omega (arith, ready.rises.lower p b, ap (at order) d)
              | no d ↦ omega (arith, ready.rises.lower p b, earlier p (omega arith))
            ])

    pub evaluating_fits : at sums v + own v ≤ most_total
    evaluating_fits =
        omega (arith, evaluating_met ready.addable.value ready.addable.adds, ready.addable.small j here)

    -- the sum at the link
    linked_small : at sums (at links v) ≤ 1023 * most_total
    linked_small =
        ⊎_elim placed (λ (o : Outside order (at links v)). at_source (ready.closed j here o))
        (placed_or_outside order (at links v))
      where
        at_source : at links v ≡ 0 → at sums (at links v) ≤ 1023 * most_total
        at_source e = omega (arith, ap (at sums) e, turn.source, order_few _ order links ready.rises, ready.few)

        placed : Placed order (at links v) → at sums (at links v) ≤ 1023 * most_total
        placed q =
            let p = q.place in
            let before : p < i = elim (dec_lt p i) [
              | yes h ↦ h
              | no h ↦ absurd (omega (arith, link_lower, later p (omega arith) q.within, q.is))
            ] in
            let value = ready.addable.value in
            omega (
              arith,
              ap (at sums) q.is,
              (turn.valued value ready.addable.adds).waiting p before,
              total_parts (adding value (at order p)) order i 0,
              ready.addable.adds.is p q.within,
              ready.addable.small p q.within,
            )

    -- the vertex's sum w, and the greater of it and the vertex's bound
    module _ (w more : ℕ) (w_is : w ≡ at sums v + own v) (more_is : more ≡ max (of_arc bounds v) w) where
      more_small : more ≤ most_total
      more_small = omega (arith, evaluating_fits, ready.addable.bounded j here)

      abbrev carried : List ℕ
      carried = set taken (at links v) (at taken (at links v) + more)

      pub linked_fits : at taken (at links v) + more ≤ 1024 * most_total
      linked_fits =
          omega (
            arith,
            get_or-set_other sums v (at links v) 0 0 (λ e. omega (arith, link_lower)),
            linked_small,
            more_small,
          )

      -- what the sums are after the turn
      at_other : (u : ℕ) → (u ≡ v → ⊥) → at carried u ≡ pick (eqb (at links v) u) more + at sums u
      at_other u d =
          elim (ℕ_discrete u (at links v)) [
            | yes e ↦
                omega (
                  arith,
                  ap (at carried) e,
                  get_or-set_same taken (at links v) (at taken (at links v) + more) 0 link_within,
                  get_or-set_other sums v (at links v) 0 0 (λ q. omega (arith, link_lower)),
                  ap (at sums) e,
                  pick_yes more (eq-eqb (at links v) u (sym e)),
                )
            | no n ↦
                omega (
                  arith,
                  get_or-set_other taken (at links v) u (at taken (at links v) + more) 0 n,
                  get_or-set_other sums v u 0 0 d,
                  pick_no more (ne_eqb (at links v) u (λ e. n (sym e))),
                )
          ]

      at_itself : at carried v ≡ 0
      at_itself =
          get_or-set_other taken (at links v) v (at taken (at links v) + more) 0 (λ e. omega (arith, link_lower))
          ∙ get_or-set_same sums v 0 0 (omega (arith, place_fits, turn.sums_sized))

      pub evaluating_on : Evaluating carried (set held v w) j
      evaluating_on =
          record {
            sums_sized = length-set taken (at links v) (at taken (at links v) + more) ∙ sized;
            held_sized = length-set held v w ∙ turn.held_sized;
            within = omega (arith, here);
            valued = λ value adds. record {
              done = λ p lo hi. elim (ℕ_discrete p j) [
                | yes d ↦ ap (λ (k : ℕ). at (set held v w) (at order k)) d
                    ∙ get_or-set_same held v w 0 (omega (arith, place_fits, turn.held_sized))
                    ∙ w_is ∙ evaluating_met value adds ∙ ap (λ (k : ℕ). value (at order k)) (sym d)
                | no d ↦ get_or-set_other held v (at order p) w 0 (λ e. omega (arith, later p (omega arith) hi))
                    ∙ (turn.valued value adds).done p (omega arith) hi
              ];
              waiting = λ p hi. omega (
                arith,
                at_other (at order p) (λ e. omega (arith, earlier p hi)),
                (turn.valued value adds).waiting p (omega arith),
                ap (λ (k : ℕ). total (adding value (at order p)) (drop k order)) next,
                total_first (adding value (at order p)) order j here,
                ap (pick (eqb (at links v) (at order p))) (more_value value adds),
              );
            };
            cleared = λ p lo hi. elim (ℕ_discrete p j) [
              | yes d ↦ ap (λ (k : ℕ). at carried (at order k)) d ∙ at_itself
              | no d ↦
                  let after = later p (omega arith) hi in
                  omega (
                    arith,
                    at_other (at order p) (λ e. omega arith),
                    pick_no more (ne_eqb (at links v) (at order p) (λ e. omega (arith, link_lower))),
                    turn.cleared p (omega arith) hi,
                  )
            ];
            source =
                omega (
                  arith,
                  at_other 0 (λ e. omega (arith, ready.rises.first j here)),
                  pick_le (eqb (at links v) 0) more,
                  more_small,
                  turn.source,
                );
          }
        where
          more_value : (value : ℕ → ℕ) → Adds order links bounds own value → more ≡ max (of_arc bounds v) (value v)
          more_value value adds = more_is ∙ ap (max (of_arc bounds v)) (w_is ∙ evaluating_met value adds)

-- one turn as the loop makes it: v is the vertex at the place before i, `now` what its users have, and p its link
module _ (order links bounds caps numbers rests pivots : List ℕ) {sums held : List ℕ} {i v share now : ℕ}
    (few : length bounds ≤ most_arcs) (rises : Rising (length bounds) order links)
    (addable : Addable order links bounds (own_at caps numbers rests pivots))
    (closed : (j : ℕ) → j < length order → Outside order (at links (at order j)) → at links (at order j) ≡ 0)
    (turn : Evaluating order links bounds (own_at caps numbers rests pivots) sums held i) (some : 0 < i)
    (v_is : v ≡ at order (i - 1)) (share_is : share ≡ share_at (at caps v) (at numbers v) (at pivots v))
    (now_is : now ≡ at sums v + at rests v + share) where
  ready : Ready order links bounds (own_at caps numbers rests pivots)
  ready = record { few = few; rises = rises; addable = addable; closed = closed }

  next : i ≡ suc (i - 1)
  next = omega arith

  sum_is : now ≡ at sums (at order (i - 1)) + own_at caps numbers rests pivots (at order (i - 1))
  sum_is = rw v_is at (let e : now ≡ at sums v + own_at caps numbers rests pivots v = omega arith in e)

  pub turn_fits : now ≤ most_total
  turn_fits = omega (arith, sum_is, evaluating_fits order links bounds _ ready i (i - 1) next turn)

  module _ {p more : ℕ} (p_is : p ≡ at links v) (more_is : more ≡ max (get_or bounds (v - 1) 0) now) where
    more_here : more ≡ max (of_arc bounds (at order (i - 1))) now
    more_here =
        let low = link_lower order links bounds _ ready i (i - 1) next turn in
        rw v_is at (more_is ∙ ap (λ (b : ℕ). max b now) (arc_entry bounds v (omega arith)))

    pub turn_sum_fits : at (set sums v 0) p + more ≤ 1024 * most_total
    turn_sum_fits =
        rw (p_is, v_is) (linked_fits order links bounds _ ready i (i - 1) next turn now more sum_is more_here)

    pub turn_on : Evaluating order links bounds (own_at caps numbers rests pivots)
        (set (set sums v 0) p (at (set sums v 0) p + more)) (set held v now) (i - 1)
    turn_on =
        rw (p_is, v_is) (evaluating_on order links bounds _ ready i (i - 1) next turn now more sum_is more_here)
